-- Cuts through closed logs: a length for each, the accounts that the sites have there, and what was merged before it.
use Rattle.std.specs.Prelude.{◌≡◌, ℕ, zero, suc, ◌+◌, ◌<◌, ◌⊎◌, Bool, true, false, ◌&&◌, ◌||◌, if◌then◌else◌, List, [], ◌∷◌, ◌++◌, map, length, slice_index, slice_index_or}
use Rattle.merge_core.specs.declared.cell.Cell.{Cell}
use Rattle.merge_core.specs.declared.delta.Row.{Row}
use Rattle.merge_core.specs.Layout.{LayoutState}
use Rattle.merge_core.specs.Rows.{counter_in, counters_of}
use Rattle.admission_model.specs.declared.ask.Call.{Call}
use Rattle.admission_model.specs.declared.ask.Call.TheVariants.{Merge}
use Rattle.admission_model.specs.declared.reply.Reply.{Reply}
use Rattle.admission_model.specs.declared.reply.Reply.TheVariants.{Merged}
use Rattle.admission_model.specs.Account.{Account, own}
use Rattle.desk_log.specs.declared.entry.Entry.{Entry}
use Rattle.desk_log.specs.declared.transcript.Run.{Run}
use Rattle.desk_log.specs.declared.transcript.Transcript.{Transcript}
use Rattle.desk_log.specs.Log.{is_fault}
use Rattle.multi_site_world.specs.Laws.{StandsIn}
use Rattle.log_replay.specs.Legal.{was_kept, after_run, account_at, start_account}

-- how many entries runs have together
abbrev pub entries_in : List Run → ℕ
entries_in [] = 0
entries_in (run ∷ later) = length run.entries + entries_in later

-- the reply is that of a merge that was carried out
abbrev pub is_merged : Reply → Bool
is_merged (Merged n) = true
is_merged _ = false

-- the call was carried out, where it is a merge: a call in doubt only if it was kept
abbrev pub is_accepted : Bool → Reply → Bool
is_accepted kept reply = is_merged reply || (kept && is_fault reply)

-- the rows of a merge
abbrev pub merge_rows : Call → List Row
merge_rows (Merge delta) = delta.rows
merge_rows _ = []

-- the rows that an entry brought to its site: those of a merge that was carried out
abbrev pub rows_brought : Bool → Entry → List Row
rows_brought kept e = if is_accepted kept e.reply then merge_rows e.call else []

-- the rows that each entry of runs brought, in order
abbrev pub brought : Account → List Run → List (List Row)
brought a [] = []
brought a (run ∷ later) = map (rows_brought (was_kept a run later)) run.entries ++ brought (after_run a run later) later

abbrev pub no_transcript : Transcript
no_transcript = record { site = 0; runs = [] }

-- the runs of a site, by its number
abbrev pub runs_at : List Transcript → ℕ → List Run
runs_at ts i = (slice_index_or ts i no_transcript).runs

-- the cut at the end of each of the first n transcripts
abbrev pub lengths_below : List Transcript → ℕ → List ℕ
lengths_below ts zero = []
lengths_below ts (suc n) = lengths_below ts n ++ entries_in (runs_at ts n) ∷ []

-- the cut at the end of each transcript
abbrev pub full_cut : List Transcript → List ℕ
full_cut ts = lengths_below ts (length ts)

-- the account of a site at the cut
abbrev pub cut_account : LayoutState → List Transcript → List ℕ → ℕ → Account
cut_account layout ts cut i = account_at (start_account layout i (runs_at ts i)) (slice_index cut i) (runs_at ts i)

-- the rows that each entry of a site's transcript brought
abbrev pub site_brought : LayoutState → List Transcript → ℕ → List (List Row)
site_brought layout ts i = brought (start_account layout i (runs_at ts i)) (runs_at ts i)

-- A merge within the cut brought more than was done: entry `at` of site i brought a row of record r and site s, of which
-- a counter is above what s had done in its own part of the cut, whichever site sent the row. Without such a merge the
-- cut is consistent (Chandy and Lamport, 1985; Mattern, 1989; here compared counter by counter).
pub record IsExcess (layout : LayoutState) (ts : List Transcript) (cut : List ℕ) (i at r s : ℕ) : Type 0 where
  pub site_there : i < length ts
  pub within : at < slice_index cut i
  pub row : Row
  pub here : StandsIn row (slice_index_or (site_brought layout ts i) at [])
  pub record_is : row.r ≡ r
  pub origin_is : row.s ≡ s
  pub cell : Cell
  pub above : own (cut_account layout ts cut s) r cell < counter_in (counters_of row) cell

-- a place stands before another: by site, then by entry, record and origin
abbrev pub IsBefore : ℕ → ℕ → ℕ → ℕ → ℕ → ℕ → ℕ → ℕ → Type 0
IsBefore i at r s j bt q t =
    (i < j) ⊎ ((i ≡ j) × ((at < bt) ⊎ ((at ≡ bt) × ((r < q) ⊎ ((r ≡ q) × (s < t))))))

-- the least place of such a merge
pub record IsLeastExcess (layout : LayoutState) (ts : List Transcript) (cut : List ℕ) (i at r s : ℕ) : Type 0 where
  pub is : IsExcess layout ts cut i at r s
  pub least : (j bt q t : ℕ) → IsExcess layout ts cut j bt q t → ¬ IsBefore j bt q t i at r s
