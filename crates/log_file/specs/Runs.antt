-- The runs in a site's log, and one that begins behind them (this project's own).
use Rattle.std.specs.Prelude.{◌≡◌, ◌≢◌, ℕ, ◌<◌, List, [], ◌∷◌, ◌++◌, length}
use Rattle.merge_core.specs.Layout.{LayoutState}
use Rattle.admission_core.specs.Kept.{DurableState}
use Rattle.admission_model.specs.declared.reply.Refusal.TheVariants.{StoreFault}
use Rattle.admission_model.specs.declared.reply.Reply.TheVariants.{Refused}
use Rattle.desk_log.specs.declared.entry.Entry.{Entry}
use Rattle.desk_log.specs.declared.transcript.Run.{Run}
use Rattle.desk_log.specs.declared.transcript.Transcript.{Transcript}
use Rattle.log_judge.specs.Cut.{runs_at}
use Rattle.log_judge.specs.Legal.{start_account, AreLegal}
use Rattle.transcript_text.specs.Texts.{MayBegin}

-- no other site than i has a run
abbrev pub IsOnlyOf : ℕ → List Transcript → Type 0
IsOnlyOf i ts = (k : ℕ) → k < length ts → k ≢ i → runs_at ts k ≡ []

-- a run of no entry yet, under the whole layout
abbrev pub new_run : LayoutState → DurableState → Run
new_run layout first = record { sites = layout.sites; first = first; entries = [] }

-- runs of site i, and behind them a new one that begins with what a store kept
abbrev pub with_new : LayoutState → DurableState → List Run → List Run
with_new layout first runs = runs ++ new_run layout first ∷ []

-- The runs fit what the store kept: a run may begin with it, and is legal behind them.
pub record Fits (layout : LayoutState) (i : ℕ) (runs : List Run) (first : DurableState) : Type 0 where
  pub may_begin : MayBegin layout i layout.sites first
  pub legal : AreLegal layout i (start_account layout i (with_new layout first runs)) (with_new layout first runs)

-- the last of the runs has entries, of which this is the last
pub record EndsWith (runs : List Run) (e : Entry) : Type 0 where
  pub run : Run
  pub earlier_runs : List Run
  pub earlier : List Entry
  pub is_run : runs ≡ earlier_runs ++ run ∷ []
  pub is_last : run.entries ≡ earlier ++ e ∷ []

-- the last of the runs has no entry, or there is no run
abbrev pub HasNoLast : List Run → Type 0
HasNoLast runs = (e : Entry) → ¬ EndsWith runs e

-- an entry whose change was not kept: its call was answered with the store's fault
abbrev pub in_doubt : Entry → Entry
in_doubt e = record e { reply = Refused StoreFault }
