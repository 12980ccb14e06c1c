-- From the threads that were started to what they gave.
use Rattle.std.proofs.Common.{◌≡◌, ℕ, ◌<◌, List, [], ◌∷◌, ◌++◌, length, slice_index_or, Result, sym, ap, subst, ◌∙◌}
use Rattle.std.proofs.lemmas.List.{get_or-map, length-map, map-append}
use Rattle.std.proofs.lemmas.List.Elements.{All-append, All-cons, All-nil}
use Rattle.std.specs.declared.thread.PromisedHandle.{PromisedHandle}
use Rattle.std.specs.declared.alloc.AllocError.{AllocError}
use Rattle.desk_log.specs.declared.transcript.Transcript.{Transcript}
use Rattle.run_engine.specs.declared.sites.Job.{Job}
use Rattle.run_engine.specs.declared.site_threads.SitePromise.{SitePromise}
use Rattle.run_engine.specs.declared.tasks.Task.{Task}
use Rattle.run_engine.specs.declared.tasks.TaskPromise.{TaskPromise}
use Rattle.run_engine.specs.Runs.{CameOfEach, GivesRun}
use Rattle.run_engine.specs.Threads.{AreSiteThreads, AreTaskThreads, IsTaskThread}

-- the thread of one task more was started
pub one_more_task : {L : Type 0} (records turns : ℕ) (tasks : List (Task L)) (task : Task L) (handles : List (PromisedHandle (Task L) (TaskPromise L))) (handle : PromisedHandle (Task L) (TaskPromise L))
    → AreTaskThreads records turns tasks handles → IsTaskThread records turns task handle → AreTaskThreads records turns (tasks ++ task ∷ []) (handles ++ handle ∷ [])
one_more_task {L = L} records turns tasks task handles handle are is =
    let task_of : PromisedHandle (Task L) (TaskPromise L) → Task L = λ h. h.promise.task.value in
    let Numbers : PromisedHandle (Task L) (TaskPromise L) → Type 0 = λ h. (h.promise.records ≡ records) × (h.promise.turns ≡ turns) in
    record {
      of_tasks = map-append task_of handles (handle ∷ []) ∙ (ap (λ (ts : List (Task L)). ts ++ task_of handle ∷ []) are.of_tasks ∙ ap (λ (t : Task L). tasks ++ t ∷ []) is.of_task);
      each = All-append Numbers handles (handle ∷ []) are.each (All-cons Numbers handle [] (is.of_records, is.of_turns) (All-nil Numbers));
    }

-- the thread of a site
abbrev Handle : Type 0
Handle = PromisedHandle (Result Transcript AllocError) SitePromise

abbrev job_of : Handle → Job
job_of handle = handle.promise.job.value

-- the thread at a place gave this
pub record KeptAt (handles : List Handle) (i : ℕ) (answer : Result Transcript AllocError) : Type 0 where
  pub handle : Handle
  pub there : handle ≡ slice_index_or handles i handle
  pub kept : GivesRun handle.promise.job.value answer

pub came_of_each : (jobs : List Job) (handles : List Handle) (answers : List (Result Transcript AllocError)) → AreSiteThreads jobs handles → length answers ≡ length handles
    → ((i : ℕ) (d : Result Transcript AllocError) → i < length handles → KeptAt handles i (slice_index_or answers i d)) → CameOfEach jobs answers
came_of_each jobs handles answers are many kept =
    let count : length jobs ≡ length handles = sym (ap length are) ∙ length-map handles job_of in
    record {
      number = many ∙ sym count;
      each = λ i d below.
          let within : i < length handles = subst (λ (n : ℕ). i < n) count below in
          let at : KeptAt handles i (slice_index_or answers i d) = kept i d within in
          record {
            job = job_of at.handle;
            there = λ e.
                subst (λ (js : List Job). slice_index_or js i e ≡ job_of at.handle) are
                (get_or-map job_of handles i at.handle e within ∙ ap job_of (sym at.there));
            came = at.kept;
          };
    }
