-- What the handles of started threads promise (this project's own).
use Rattle.std.specs.Prelude.{◌≡◌, ℕ, List, All, map, Result}
use Rattle.std.specs.declared.thread.PromisedHandle.{PromisedHandle}
use Rattle.std.specs.declared.alloc.AllocError.{AllocError}
use Rattle.desk_log.specs.declared.transcript.Transcript.{Transcript}
use Rattle.run_engine.specs.declared.sites.Job.{Job}
use Rattle.run_engine.specs.declared.site_threads.SitePromise.{SitePromise}
use Rattle.run_engine.specs.declared.tasks.Task.{Task}
use Rattle.run_engine.specs.declared.tasks.TaskPromise.{TaskPromise}

-- the thread carries out this task, at a site with so many records
pub record IsTaskThread {L : Type 0} (records turns : ℕ) (task : Task L) (handle : PromisedHandle (Task L) (TaskPromise L)) : Type 0 where
  pub of_task : handle.promise.task.value ≡ task
  pub of_records : handle.promise.records ≡ records
  pub of_turns : handle.promise.turns ≡ turns

-- there is a thread for each task, in order
pub record AreTaskThreads {L : Type 0} (records turns : ℕ) (tasks : List (Task L)) (handles : List (PromisedHandle (Task L) (TaskPromise L))) : Type 0 where
  pub of_tasks : map (λ h. h.promise.task.value) handles ≡ tasks
  pub each : All (λ h. (h.promise.records ≡ records) × (h.promise.turns ≡ turns)) handles

-- there is a thread for each job, in order
abbrev pub AreSiteThreads : List Job → List (PromisedHandle (Result Transcript AllocError) SitePromise) → Type 0
AreSiteThreads jobs handles = map (λ h. h.promise.job.value) handles ≡ jobs
