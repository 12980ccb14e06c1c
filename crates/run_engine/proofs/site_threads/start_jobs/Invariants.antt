use Rattle.run_engine.specs.Threads.{AreSiteThreads}
use Rattle.run_engine.proofs.site_threads.start_jobs.Given as goal

abbrev pub invariant-loop-job : goal.invariant-loop-job
invariant-loop-job g l = AreSiteThreads l.yielded l.handles.items
