-- For private clauses: the lines of one run at the front of others.
use Rattle.std.specs.Prelude.{◌≡◌, ℕ, ◌+◌, ◌⊎◌, List, [], ◌∷◌, ◌++◌, length, map}
use Rattle.std.specs.List.{All}
use Rattle.merge_core.specs.declared.layout.RecordSpec.{RecordSpec}
use Rattle.merge_core.specs.Layout.{LayoutState}
use Rattle.desk_log.specs.declared.transcript.Transcript.{Transcript}
use Rattle.transcript_reader.specs.declared.runs.SiteRun.{SiteRun}
use Rattle.transcript_text.specs.Texts.{entry_text}
use Rattle.transcript_reader.specs.Fits.{FitsEntry}
use Rattle.transcript_reader.specs.Reading.{IsNoEntry, BeginsRun, BeginsNoRun, AreLines, opening_of, transcripts_below}

-- no line is left, or the first one is no entry
abbrev pub StopsAt : List RecordSpec → List (List ℕ) → Type 0
StopsAt records [] = Unit {0}
StopsAt records (line ∷ lines) = IsNoEntry records line

-- the lines begin with those of a run, and these follow
pub record HasRun (layout : LayoutState) (lines : List (List ℕ)) (r : SiteRun) (rest : List (List ℕ)) : Type 0 where
  pub line : List ℕ
  pub begins : BeginsRun layout line (opening_of r)
  pub fit : All FitsEntry r.run.entries
  pub is_front : lines ≡ line ∷ (map (entry_text layout.records) r.run.entries ++ rest)

-- no run begins with the first of the lines
pub record HasNoRun (layout : LayoutState) (lines : List (List ℕ)) : Type 0 where
  pub line : List ℕ
  pub rest : List (List ℕ)
  pub is_front : lines ≡ line ∷ rest
  pub no_run : BeginsNoRun layout line

-- Some of the lines are those of runs, whose transcripts these are, and the rest is left, from the line of this number
-- on.
pub record AreReadUpTo (layout : LayoutState) (lines rest : List (List ℕ)) (number : ℕ) (transcripts : List Transcript) : Type 0 where
  pub runs : List SiteRun
  pub front : List (List ℕ)
  pub is_front : lines ≡ front ++ rest
  pub is_number : number ≡ length front + 1
  pub are_runs : AreLines layout front runs
  pub stops : (runs ≡ []) ⊎ StopsAt layout.records rest
  pub told : transcripts ≡ transcripts_below runs layout.sites
