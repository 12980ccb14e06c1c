use Rattle.std.proofs.Common.{rules, ◌≡◌, List, [], ◌∷◌, ◌++◌, length, subst, sym}
use Rattle.std.specs.declared.thread.PromisedHandle.{PromisedHandle}
use Rattle.run_engine.specs.declared.tasks.Task.{Task}
use Rattle.run_engine.specs.declared.tasks.TaskPromise.{TaskPromise}
use Rattle.run_engine.specs.Threads.{AreTaskThreads}
use Rattle.run_engine.proofs.ThreadLemmas.{one_more_task}
use Rattle.run_engine.proofs.tasks.start_tasks.Goals as goal

pub loop-task-preserved : goal.loop-task-preserved
loop-task-preserved g c =
    let records = length c.args.site.now.layout.records in
    let before = c.loop-task.handles.items in
    let handle = c.in-Some-start_task.handle in
    let pushed : c.push.new.self.items ≡ before ++ handle ∷ [] = search rules in
    subst (λ (hs : List (PromisedHandle (Task g.row.L.Denot) (TaskPromise g.row.L.Denot))). AreTaskThreads records c.args.turns (c.loop-task.yielded ++ c.in-Some.task ∷ []) hs) (sym pushed)
    (one_more_task records c.args.turns c.loop-task.yielded c.in-Some.task before handle c.loop-task.invariant c.in-Some-start_task.ensures)
