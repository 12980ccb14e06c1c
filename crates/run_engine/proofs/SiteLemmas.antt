-- From a site that was opened, asked and closed to its run, and from the runs of all jobs to those of all sites.
use Rattle.std.proofs.Common.{◌≡◌, ℕ, zero, suc, ◌-◌, ◌<◌, List, [], ◌∷◌, ◌++◌, map, length, slice_index_or, true, Some, Result, Ok, Err, IfOk, sym, ap, subst, ◌∙◌, arith}
use Rattle.std.proofs.lemmas.List.{length-map}
use Rattle.std.proofs.lemmas.List.Elements.{All-pop}
use Rattle.std.proofs.Math.ListN.{get_or-map}
use Rattle.std.specs.declared.alloc.AllocError.{AllocError}
use Rattle.merge_core.specs.Layout.{LayoutState}
use Rattle.admission_model.specs.declared.ask.Ask.{Ask}
use Rattle.admission_model.specs.Restoring.{AreCells, AreSessions}
use Rattle.admission_core.specs.Kept.{DurableState}
use Rattle.durable_keeper.specs.declared.keeper.Keeper.{Ghosts}
use Rattle.desk_log.specs.declared.transcript.Transcript.{Transcript}
use Rattle.desk_log.specs.Log.{IsLegal, begun}
use Rattle.session_book.specs.Passes.{PassState, new_pass, receipts_of}
use Rattle.session_book.specs.Sites.{SiteState, IsClosed, BearsOut}
use Rattle.run_engine.specs.declared.script.Asked.{Asked}
use Rattle.run_engine.specs.declared.sites.Job.{Job}
use Rattle.run_engine.specs.declared.tasks.Caller.{Caller}
use Rattle.run_engine.specs.declared.tasks.Task.{Task}
use Rattle.run_engine.specs.declared.tasks.Task.TheVariants.{Calls, Link}
use Rattle.run_engine.specs.Tasks.{EndsInCaller, EndsInCalled, HasCalled, HasRunTask, HaveRun, IsCaller, IsCalled}
use Rattle.run_engine.specs.Scripts.{asks_of}
use Rattle.run_engine.specs.Callers.{HasAsked, ask_calls, calls_in}
use Rattle.run_engine.specs.Runs.{AreAnswers, AreJobs, AreSiteRuns, CameOf, CameOfEach, IsClosedWith, IsJob, IsOpenedFor, IsSiteRun}

-- a site was closed with a pass behind all others
pub closed_with : {K : Type 0} (g : Ghosts K) (was_kept : DurableState → Type 0) (s : SiteState) (ps before : List PassState) (pass : PassState) (t : Transcript) (k : K)
    → ps ≡ before ++ pass ∷ [] → IsClosed g was_kept s ps t k → IsClosedWith s pass t
closed_with g was_kept s ps before pass t k split closed = record {
  of_site = closed.of_site;
  run = closed.run;
  one_run = closed.one_run;
  sites = closed.sites;
  began = closed.began;
  cells = closed.cells;
  sessions = closed.sessions;
  legal = closed.legal;
  receipts = (All-pop (BearsOut s.limit closed.run.entries) ps before (Some pass) split closed.each).1.receipts;
}

-- a site that was opened over nothing, asked by its pass 0, and closed
pub site_run : (layout : LayoutState) (i passes : ℕ) (asks : List Ask) (s : SiteState) (ps : List PassState) (pass : PassState) (t : Transcript)
    → IsOpenedFor layout i passes s ps → HasAsked asks (new_pass 0) pass → IsClosedWith s pass t → IsSiteRun layout i asks t
site_run layout i passes asks s ps pass t opened asked closed =
    let run = closed.run in
    record {
      of_site = closed.of_site ∙ opened.of_site;
      run = run;
      one_run = closed.one_run;
      sites = closed.sites ∙ ap (λ (l : LayoutState). l.sites) opened.of_layout;
      began = closed.began ∙ opened.nothing;
      cells = subst (λ (n : ℕ). AreCells layout n run.first.cells) opened.of_site (subst (λ (l : LayoutState). AreCells l s.site run.first.cells) opened.of_layout closed.cells);
      sessions =
          subst (λ (n : ℕ). AreSessions layout n run.first.cells run.first.sessions) opened.of_site
          (subst (λ (l : LayoutState). AreSessions l s.site run.first.cells run.first.sessions) opened.of_layout closed.sessions);
      legal =
          subst (λ (d : DurableState). IsLegal (begun layout i d) run.entries) (sym closed.began)
          (subst (λ (n : ℕ). IsLegal (begun layout n s.first) run.entries) opened.of_site
          (subst (λ (l : LayoutState). IsLegal (begun l s.site s.first) run.entries) opened.of_layout closed.legal));
      asked = subst (λ (n : ℕ). calls_in (receipts_of n run.entries) ≡ ask_calls asks) asked.number (ap calls_in closed.receipts ∙ asked.calls);
    }

-- the transcript of a job is that of its site
job_run : (layout : LayoutState) (asked : List Asked) (jobs : List Job) (i : ℕ) (t : Transcript) → AreJobs layout asked jobs → i < length jobs → CameOf jobs i (Ok t) → IsSiteRun layout i (asks_of i asked) t
job_run layout asked jobs i t are below came =
    let job = came.job in
    let is : IsJob layout asked i job = subst (λ (j : Job). IsJob layout asked i j) (came.there job) (are.each i job below) in
    subst (λ (l : LayoutState). IsSiteRun l i (asks_of i asked) t) is.of_layout
    (subst (λ (n : ℕ). IsSiteRun job.layout n (asks_of i asked) t) is.of_site
    (subst (λ (asks : List Ask). IsSiteRun job.layout job.site asks t) is.asks came.came))

-- a transcript as an answer
abbrev answer : Transcript → Result Transcript AllocError
answer t = Ok t

answer_at : (ts : List Transcript) (i : ℕ) (d : Transcript) → slice_index_or (map answer ts) i (answer d) ≡ answer (slice_index_or ts i d)
answer_at ts i d = get_or-map answer ts i d

pub all_runs : (layout : LayoutState) (asked : List Asked) (jobs : List Job) (answers : List (Result Transcript AllocError)) (ts : List Transcript)
    → AreJobs layout asked jobs → CameOfEach jobs answers → AreAnswers answers ts
    → AreSiteRuns layout asked ts
all_runs layout asked jobs answers ts are came is =
    let count : length ts ≡ length jobs = sym (length-map ts answer) ∙ (sym (ap length is) ∙ came.number) in
    record {
      number = count ∙ are.number;
      each = λ i d below.
          let within : i < length jobs = omega (arith, below, count) in
          job_run layout asked jobs i (slice_index_or ts i d) are within
          (subst (λ (r : Result Transcript AllocError). CameOf jobs i r) (answer_at ts i d)
          (subst (λ (rs : List (Result Transcript AllocError)). CameOf jobs i (slice_index_or rs i (answer d))) is (came.each i (answer d) within)));
    }

-- a caller's task that was carried out is that of a caller who has asked
task_called : {L : Type 0} (asks : List Ask) (records turns : ℕ) (old new : Task L) → IsCaller asks old → HasRunTask records turns old new → IsCalled asks new
task_called asks records turns (Calls a) (Calls b) is ran = λ answered.
    subst (λ (p : PassState). HasAsked asks p b.pass) is.0 (subst (λ (xs : List Ask). HasAsked xs a.pass b.pass) is.1 (ran.asked answered))
task_called asks records turns (Calls a) (Link q) is ran = absurd ran
task_called asks records turns (Link p) new is ran = absurd is

-- .. behind all others too
pub ends_in_called : {L : Type 0} (asks : List Ask) (records turns : ℕ) (old new : List (Task L)) → EndsInCaller asks old → HaveRun records turns old new → EndsInCalled asks new
ends_in_called {L = L} asks records turns old new ends ran = record {
  some = omega (arith, ran.number, ends.some);
  last = λ d.
      let last : ℕ = length old - 1 in
      let there : last < length old = omega (arith, ends.some) in
      subst (λ (n : ℕ). IsCalled asks (slice_index_or new (n - 1) d)) (sym ran.number)
      (task_called asks records turns (slice_index_or old last d) (slice_index_or new last d) (ends.last d) (ran.each last d there));
}

pub if_ok : {T E : Type 0} (r : Result T E) (P Q : T → Type 0) → ((x : T) → P x → Q x) → IfOk r P → IfOk r Q
if_ok (Ok x) P Q f p = f x p
if_ok (Err e) P Q f p = p

-- the runs of both sites of a layout
two_at : (layout : LayoutState) (asked : List Asked) (t u : Transcript) → IsSiteRun layout 0 (asks_of 0 asked) t → IsSiteRun layout 1 (asks_of 1 asked) u
    → (i : ℕ) (d : Transcript) → i < 2 → IsSiteRun layout i (asks_of i asked) (slice_index_or (t ∷ (u ∷ [])) i d)
two_at layout asked t u first second zero d below = first
two_at layout asked t u first second (suc zero) d below = second
two_at layout asked t u first second (suc (suc i)) d below = absurd (omega (arith, below))

pub two_runs : (layout : LayoutState) (asked : List Asked) (t u : Transcript) (ts : List Transcript) → layout.sites ≡ 2 → ts ≡ t ∷ (u ∷ [])
    → IsSiteRun layout 0 (asks_of 0 asked) t → IsSiteRun layout 1 (asks_of 1 asked) u → AreSiteRuns layout asked ts
two_runs layout asked t u ts two is first second = record {
  number = ap length is ∙ sym two;
  each = λ i d below.
      subst (λ (xs : List Transcript). IsSiteRun layout i (asks_of i asked) (slice_index_or xs i d)) (sym is)
      (two_at layout asked t u first second i d (omega (arith, below, ap length is)));
}

-- a site that was opened over nothing, asked by a caller, and closed
pub work_run : {L : Type 0} (layout copy : LayoutState) (i passes : ℕ) (asks : List Ask) (s : SiteState) (ps : List PassState) (old new : Caller L) (t : Transcript)
    → copy ≡ layout → IsOpenedFor copy i passes s ps → old.pass ≡ new_pass 0 → old.asks.items ≡ asks → HasCalled old new → new.answered ≡ true → IsClosedWith s new.pass t
    → IsSiteRun layout i asks t
work_run layout copy i passes asks s ps old new t is opened pass are called answered closed =
    site_run layout i passes asks s ps new.pass t (subst (λ (l : LayoutState). IsOpenedFor l i passes s ps) is opened)
    (subst (λ (p : PassState). HasAsked asks p new.pass) pass (subst (λ (xs : List Ask). HasAsked xs old.pass new.pass) are (called.asked answered)))
    closed
