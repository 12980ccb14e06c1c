-- What the judge knows once all transcripts are replayed (no public contract cites these).
use Rattle.std.specs.Prelude.{◌≡◌, ℕ, ◌<◌, Bool, List, [], length, slice_index_or}
use Rattle.merge_core.specs.declared.delta.Row.{Row}
use Rattle.merge_core.specs.Layout.{LayoutState}
use Rattle.desk_log.specs.declared.transcript.Transcript.{Transcript}
use Rattle.log_judge.specs.declared.judging.Judged.{Judged}
use Rattle.log_judge.specs.declared.judging.Judged.TheVariants.{Legal, Faulty}
use Rattle.log_replay.specs.Legal.{start_account}
use Rattle.log_judge.specs.Cut.{runs_at, cut_account}
use Rattle.log_judge.specs.Verdict.{AreLegalSites, IsVerdict}
use Rattle.log_replay.specs.Replay.{TellsOwn, flags_of}

-- the transcripts of the first n sites are legal, and these are their own rows at the cut and their flags
pub record AreHistories (layout : LayoutState) (ts : List Transcript) (cut : List ℕ) (n : ℕ) (own : List (List Row)) (kept : List (List Bool)) : Type 0 where
  pub legal : AreLegalSites layout ts n
  pub own_number : length own ≡ n
  pub kept_number : length kept ≡ n
  pub own_rows : (i : ℕ) → i < n → TellsOwn (length layout.records) (slice_index_or own i []) (cut_account layout ts cut i)
  pub flags : (i : ℕ) → i < n → slice_index_or kept i [] ≡ flags_of (start_account layout i (runs_at ts i)) (runs_at ts i)

-- the answer to all transcripts
abbrev pub IsJudged : LayoutState → List Transcript → List ℕ → Judged → Type 0
IsJudged layout ts cut (Legal h) = AreHistories layout ts cut (length ts) h.own.items h.kept.items
IsJudged layout ts cut (Faulty verdict) = IsVerdict layout ts cut verdict
