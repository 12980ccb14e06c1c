-- What the sites of a run leave (this project's own).
use Rattle.std.specs.Prelude.{◌≡◌, ℕ, ◌<◌, List, [], ◌∷◌, map, length, slice_index_or, Result, Ok, IfOk}
use Rattle.std.specs.declared.alloc.AllocError.{AllocError}
use Rattle.merge_core.specs.Layout.{LayoutState}
use Rattle.admission_model.specs.declared.ask.Ask.{Ask}
use Rattle.admission_model.specs.Restoring.{AreCells, AreSessions}
use Rattle.durable_keeper.specs.Keeping.{nothing_kept}
use Rattle.desk_log.specs.declared.transcript.Run.{Run}
use Rattle.desk_log.specs.declared.transcript.Transcript.{Transcript}
use Rattle.desk_log.specs.Log.{IsLegal, begun}
use Rattle.session_book.specs.Passes.{PassState, receipts_of}
use Rattle.session_book.specs.Sites.{SiteState, new_passes}
use Rattle.run_engine.specs.declared.script.Asked.{Asked}
use Rattle.run_engine.specs.declared.sites.Job.{Job}
use Rattle.run_engine.specs.Scripts.{asks_of}
use Rattle.run_engine.specs.Callers.{ask_calls, calls_in}

-- What a site of a layout leaves that began with nothing kept and was asked this by its caller: one run, in which the
-- calls of pass 0 are the asks, in their order, and each reply is the model's.
pub record IsSiteRun (layout : LayoutState) (i : ℕ) (asks : List Ask) (t : Transcript) : Type 0 where
  pub of_site : t.site ≡ i
  pub run : Run
  pub one_run : t.runs ≡ run ∷ []
  pub sites : run.sites ≡ layout.sites
  pub began : run.first ≡ nothing_kept
  pub cells : AreCells layout i run.first.cells
  pub sessions : AreSessions layout i run.first.cells run.first.sessions
  pub legal : IsLegal (begun layout i run.first) run.entries
  pub asked : calls_in (receipts_of 0 run.entries) ≡ ask_calls asks

-- each site of a layout left such a run, in order of sites, where this is the script
pub record AreSiteRuns (layout : LayoutState) (asked : List Asked) (ts : List Transcript) : Type 0 where
  pub number : length ts ≡ layout.sites
  pub each : (i : ℕ) (d : Transcript) → i < length ts → IsSiteRun layout i (asks_of i asked) (slice_index_or ts i d)

-- what one site is to do
pub record IsJob (layout : LayoutState) (asked : List Asked) (i : ℕ) (job : Job) : Type 0 where
  pub of_layout : job.layout ≡ layout
  pub of_site : job.site ≡ i
  pub asks : job.asks.items ≡ asks_of i asked

-- a job for each site, in order of sites
pub record AreJobs (layout : LayoutState) (asked : List Asked) (jobs : List Job) : Type 0 where
  pub number : length jobs ≡ layout.sites
  pub each : (i : ℕ) (d : Job) → i < length jobs → IsJob layout asked i (slice_index_or jobs i d)

-- what a job gives: the run of its site, where memory and threads sufficed
abbrev pub GivesRun : Job → Result Transcript AllocError → Type 0
GivesRun job answer = IfOk answer (IsSiteRun job.layout job.site job.asks.items)

-- what came of the job at a place
pub record CameOf (jobs : List Job) (i : ℕ) (answer : Result Transcript AllocError) : Type 0 where
  pub job : Job
  pub there : (d : Job) → slice_index_or jobs i d ≡ job
  pub came : GivesRun job answer

-- what came of each job, in order
pub record CameOfEach (jobs : List Job) (answers : List (Result Transcript AllocError)) : Type 0 where
  pub number : length answers ≡ length jobs
  pub each : (i : ℕ) (d : Result Transcript AllocError) → i < length jobs → CameOf jobs i (slice_index_or answers i d)

-- each answer is one of these, in order
abbrev pub AreAnswers : List (Result Transcript AllocError) → List Transcript → Type 0
AreAnswers answers ts = answers ≡ map Ok ts

-- a site was opened over a keeper that kept nothing, and these are its passes
pub record IsOpenedFor (layout : LayoutState) (i passes : ℕ) (s : SiteState) (ps : List PassState) : Type 0 where
  pub of_layout : s.layout ≡ layout
  pub of_site : s.site ≡ i
  pub nothing : s.first ≡ nothing_kept
  pub given_out : ps ≡ new_passes passes

-- a site was closed with this pass among others: its one run is legal, and has the receipts of the pass
pub record IsClosedWith (s : SiteState) (pass : PassState) (t : Transcript) : Type 0 where
  pub of_site : t.site ≡ s.site
  pub run : Run
  pub one_run : t.runs ≡ run ∷ []
  pub sites : run.sites ≡ s.layout.sites
  pub began : run.first ≡ s.first
  pub cells : AreCells s.layout s.site run.first.cells
  pub sessions : AreSessions s.layout s.site run.first.cells run.first.sessions
  pub legal : IsLegal (begun s.layout s.site s.first) run.entries
  pub receipts : receipts_of pass.number run.entries ≡ pass.receipts
