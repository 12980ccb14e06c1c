-- What a log file must be behind a crash (this project's own): the text of legal runs, which fit what the store kept.
use Rattle.std.specs.Prelude.{◌≡◌, ℕ, ◌≤◌, ◌⊎◌, List, [], ◌++◌, length, take, codes, string_bytes, Result, Ok, Err}
use Rattle.merge_core.specs.Layout.{LayoutState}
use Rattle.admission_core.specs.Kept.{DurableState}
use Rattle.desk_log.specs.declared.entry.Entry.{Entry}
use Rattle.desk_log.specs.declared.transcript.Transcript.{Transcript}
use Rattle.log_judge.specs.Cut.{runs_at}
use Rattle.text_input.specs.Lines.{lines_of}
use Rattle.transcript_text.specs.Texts.{entry_text}
use Rattle.transcript_reader.specs.Reading.{AreTranscriptsOf, IsRefusedAt}
use Rattle.log_file.specs.declared.mending.Mended.{Mended}
use Rattle.log_file.specs.declared.refusal.LogError.{LogError}
use Rattle.log_file.specs.declared.refusal.LogError.TheVariants.{Refused, Memory, Io}
use Rattle.log_file.specs.declared.refusal.LogRefusal.TheVariants.{NotRead, InUse, NotALog, NotTranscript, WrongSite, WrongStore}
use Rattle.log_file.specs.Runs.{IsOnlyOf, Fits, EndsWith, HasNoLast, in_doubt}
use Rattle.log_file.specs.Pieces.{IsTorn, HasLastLine}
use Rattle.log_file.specs.Fronts.{IsNoFront, MayBeLog}

-- the bytes are the log of site i, with these transcripts
pub record IsLogOf (layout : LayoutState) (i : ℕ) (bytes : List ℕ) (ts : List Transcript) : Type 0 where
  pub read : AreTranscriptsOf layout bytes ts
  pub only : IsOnlyOf i ts

-- the bytes are a log of the site that fits what the store kept
pub record IsFit (layout : LayoutState) (i : ℕ) (bytes : List ℕ) (first : DurableState) : Type 0 where
  pub ts : List Transcript
  pub log : IsLogOf layout i bytes ts
  pub fits : Fits layout i (runs_at ts i) first

-- the bytes are a log of the site that does not, with these transcripts
pub record IsUnfit (layout : LayoutState) (i : ℕ) (bytes : List ℕ) (first : DurableState) (ts : List Transcript) : Type 0 where
  pub log : IsLogOf layout i bytes ts
  pub unfit : ¬ Fits layout i (runs_at ts i) first

-- the bytes have a run of another site
pub record IsOthers (layout : LayoutState) (i : ℕ) (bytes : List ℕ) : Type 0 where
  pub ts : List Transcript
  pub read : AreTranscriptsOf layout bytes ts
  pub others : ¬ IsOnlyOf i ts

-- the bytes are no log of the site, or one that does not fit
abbrev pub FitsNot : LayoutState → ℕ → List ℕ → DurableState → Type 0
FitsNot layout i bytes first =
    ((line : ℕ) × IsRefusedAt layout (lines_of bytes) line)
    ⊎ (IsOthers layout i bytes ⊎ ((ts : List Transcript) × IsUnfit layout i bytes first ts))

-- the line of an entry
abbrev pub entry_line : LayoutState → Entry → List ℕ
entry_line layout e = entry_text layout.records e ++ codes "\n"

-- Whole lines are a log that does not fit; this is the line of their last entry, with the store's fault for its reply.
pub record IsDoubted (layout : LayoutState) (i : ℕ) (whole : List ℕ) (first : DurableState) (tail : List ℕ) : Type 0 where
  pub ts : List Transcript
  pub unfit : IsUnfit layout i whole first ts
  pub last : Entry
  pub is_last : EndsWith (runs_at ts i) last
  pub is_tail : tail ≡ entry_line layout (in_doubt last)

-- .. and this stands before their last line
pub record IsRewritten (layout : LayoutState) (i : ℕ) (whole front : List ℕ) (first : DurableState) (tail : List ℕ) : Type 0 where
  pub doubted : IsDoubted layout i whole first tail
  pub line : List ℕ
  pub cut : HasLastLine whole front line

-- So many bytes are kept of a file, and this text is put behind them. Then they are a log of the site that fits. A torn
-- line is dropped, the first one only where a log can begin with it; the last whole line is dropped too only where the log
-- does not fit with it, and its entry is written again with the store's fault for its reply.
pub record MendsTo (layout : LayoutState) (i : ℕ) (bytes : List ℕ) (first : DurableState) (kept : ℕ) (tail : List ℕ) : Type 0 where
  pub may_be : MayBeLog layout i bytes
  pub whole : List ℕ
  pub torn : List ℕ
  pub is_torn : IsTorn bytes whole torn
  pub within : kept ≤ length whole
  pub fit : IsFit layout i (take kept bytes ++ tail) first
  pub how : ((kept ≡ length whole) × (tail ≡ [])) ⊎ IsRewritten layout i whole (take kept bytes) first tail

-- Whole lines are a log of the site that does not fit. It has no last entry that may be in doubt, or with that in doubt it
-- is no log that fits either.
pub record IsWrongStore (layout : LayoutState) (i : ℕ) (whole : List ℕ) (first : DurableState) : Type 0 where
  pub ts : List Transcript
  pub unfit : IsUnfit layout i whole first ts
  pub no_doubt : HasNoLast (runs_at ts i)
      ⊎ ((front tail : List ℕ) × (IsRewritten layout i whole front first tail × FitsNot layout i (front ++ tail) first))

-- what a refusal says of the whole lines of a file
abbrev pub IsFaultOf : LayoutState → ℕ → List ℕ → DurableState → LogError → Type 0
IsFaultOf layout i whole first (Refused NotRead) = ⊥
IsFaultOf layout i whole first (Refused InUse) = ⊥
IsFaultOf layout i whole first (Refused NotALog) = ⊥
IsFaultOf layout i whole first (Refused (NotTranscript line)) = IsRefusedAt layout (lines_of whole) line
IsFaultOf layout i whole first (Refused WrongSite) = IsOthers layout i whole
IsFaultOf layout i whole first (Refused WrongStore) = IsWrongStore layout i whole first
IsFaultOf layout i whole first Memory = Unit {0}
IsFaultOf layout i whole first Io = ⊥

-- bytes may be left of a log of the site, and are refused for what their whole lines are
pub record IsRefusedByLines (layout : LayoutState) (i : ℕ) (bytes : List ℕ) (first : DurableState) (e : LogError) : Type 0 where
  pub may_be : MayBeLog layout i bytes
  pub whole : List ℕ
  pub torn : List ℕ
  pub is_torn : IsTorn bytes whole torn
  pub fault : IsFaultOf layout i whole first e

-- bytes are refused: they are left of no log of the site, or have such a fault; memory may run out over any bytes
abbrev pub IsRefused : LayoutState → ℕ → List ℕ → DurableState → LogError → Type 0
IsRefused layout i bytes first (Refused NotALog) = IsNoFront layout i bytes
IsRefused layout i bytes first Memory = Unit {0}
IsRefused layout i bytes first e = IsRefusedByLines layout i bytes first e

-- the answer to a file's bytes
abbrev pub IsMended : LayoutState → ℕ → List ℕ → DurableState → Result Mended LogError → Type 0
IsMended layout i bytes first (Ok m) = MendsTo layout i bytes first m.kept (string_bytes m.tail)
IsMended layout i bytes first (Err e) = IsRefused layout i bytes first e
