use Rattle.std.proofs.Common.{rules}
use Rattle.run_engine.specs.Threads.{AreSiteThreads}
use Rattle.run_engine.proofs.ThreadLemmas.{came_of_each}
use Rattle.run_engine.proofs.site_threads.run_in_scope.Goals as goal

pub returns : goal.returns
returns g c =
    let jobs = c.args.jobs.items in
    let handles = c.start_jobs-all_started.new.handles.items in
    let answers = c.in_ok-answers.answers.items in
    let are : AreSiteThreads jobs handles = search rules in
    came_of_each jobs handles answers are c.in_ok-answers.ensures.number
    (λ i d below. let at = (c.in_ok-answers.ensures.each i d below).1 in record { handle = at.handle; there = at.handle_is; kept = at.kept })
