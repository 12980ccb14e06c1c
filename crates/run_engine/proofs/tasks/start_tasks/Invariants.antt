use Rattle.std.proofs.Common.{length}
use Rattle.run_engine.specs.Threads.{AreTaskThreads}
use Rattle.run_engine.proofs.tasks.start_tasks.Given as goal

abbrev pub invariant-loop-task : goal.invariant-loop-task
invariant-loop-task g l = AreTaskThreads (length l.site.layout.records) l.turns l.yielded l.handles.items
