-- What is known of whole lines on the way. For private clauses.
use Rattle.std.specs.Prelude.{◌≡◌, ℕ, ◌≤◌, ◌⊎◌, List, [], ◌++◌, length, take, String, string_bytes, Option, None, Some, Result, Ok, Err}
use Rattle.merge_core.specs.Layout.{LayoutState}
use Rattle.admission_core.specs.Kept.{DurableState}
use Rattle.desk_log.specs.declared.transcript.Transcript.{Transcript}
use Rattle.log_judge.specs.Cut.{runs_at}
use Rattle.text_input.specs.Lines.{lines_of}
use Rattle.transcript_reader.specs.Reading.{IsRefusedAt}
use Rattle.log_file.specs.declared.mending.Mended.{Mended}
use Rattle.log_file.specs.declared.mending.Judged.{Judged}
use Rattle.log_file.specs.declared.mending.Judged.TheVariants as judged
use Rattle.log_file.specs.declared.refusal.LogError.{LogError}
use Rattle.log_file.specs.declared.refusal.LogError.TheVariants.{Refused, Memory, Io}
use Rattle.log_file.specs.declared.refusal.LogRefusal.TheVariants.{NotRead, InUse, NotALog, NotTranscript, WrongSite, WrongStore}
use Rattle.log_file.specs.Runs.{HasNoLast}
use Rattle.log_file.specs.Mending.{IsFit, IsUnfit, IsOthers, IsDoubted, IsRewritten, IsFaultOf}

-- why whole lines are no log of the site
abbrev pub IsNoLog : LayoutState → ℕ → List ℕ → LogError → Type 0
IsNoLog layout i whole (Refused NotRead) = ⊥
IsNoLog layout i whole (Refused InUse) = ⊥
IsNoLog layout i whole (Refused NotALog) = ⊥
IsNoLog layout i whole (Refused (NotTranscript line)) = IsRefusedAt layout (lines_of whole) line
IsNoLog layout i whole (Refused WrongSite) = IsOthers layout i whole
IsNoLog layout i whole (Refused WrongStore) = ⊥
IsNoLog layout i whole Memory = Unit {0}
IsNoLog layout i whole Io = ⊥

-- a log that does not fit, by the line of its last entry, if that may be in doubt
abbrev pub IsUnfitWith : LayoutState → ℕ → List ℕ → DurableState → Option (List ℕ) → Type 0
IsUnfitWith layout i whole first None = (ts : List Transcript) × (IsUnfit layout i whole first ts × HasNoLast (runs_at ts i))
IsUnfitWith layout i whole first (Some tail) = IsDoubted layout i whole first tail

abbrev pub bytes_of : {A : Type 0} → Option (String A) → Option (List ℕ)
bytes_of None = None
bytes_of (Some text) = Some (string_bytes text)

-- the answer to whole lines
abbrev pub IsJudged : LayoutState → ℕ → List ℕ → DurableState → Result Judged LogError → Type 0
IsJudged layout i whole first (Ok judged.Fits) = IsFit layout i whole first
IsJudged layout i whole first (Ok (judged.Unfit tail)) = IsUnfitWith layout i whole first (bytes_of tail)
IsJudged layout i whole first (Err e) = IsNoLog layout i whole e

-- the answer of a log with its last entry in doubt
abbrev pub doubt_answer : Result Judged LogError → Result (Unit {0}) LogError
doubt_answer (Ok judged.Fits) = Ok tt
doubt_answer (Ok (judged.Unfit tail)) = Err (Refused WrongStore)
doubt_answer (Err Memory) = Err Memory
doubt_answer (Err (Refused refusal)) = Err (Refused WrongStore)
doubt_answer (Err Io) = Err (Refused WrongStore)

-- so many of whole lines' bytes are kept, and this text is put behind them
pub record MendsWhole (layout : LayoutState) (i : ℕ) (whole : List ℕ) (first : DurableState) (kept : ℕ) (tail : List ℕ) : Type 0 where
  pub within : kept ≤ length whole
  pub fit : IsFit layout i (take kept whole ++ tail) first
  pub how : ((kept ≡ length whole) × (tail ≡ [])) ⊎ IsRewritten layout i whole (take kept whole) first tail

-- the answer to whole lines
abbrev pub IsWholeMended : LayoutState → ℕ → List ℕ → DurableState → Result Mended LogError → Type 0
IsWholeMended layout i whole first (Ok m) = MendsWhole layout i whole first m.kept (string_bytes m.tail)
IsWholeMended layout i whole first (Err e) = IsFaultOf layout i whole first e
