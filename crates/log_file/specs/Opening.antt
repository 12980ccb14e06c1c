-- How the log of a new run begins in a file (this project's own).
use Rattle.std.specs.Prelude.{◌≡◌, ℕ, ◌+◌, false, List, ◌++◌, length, take, codes, Option, Result, Ok, Err}
use Rattle.std.specs.Io.KnownBytes.{Appends, Consumes, IsAtEnd}
use Rattle.merge_core.specs.Layout.{LayoutState}
use Rattle.admission_core.specs.Kept.{DurableState}
use Rattle.transcript_text.specs.Texts.{opening_text}
use Rattle.log_file.specs.declared.file.LogFile.{Ghosts}
use Rattle.log_file.specs.declared.file.SystemFile.{SystemFile}
use Rattle.log_file.specs.declared.hold.ExclusiveFile.{Ghosts as HoldGhosts}
use Rattle.log_file.specs.declared.refusal.LogError.{LogError}
use Rattle.log_file.specs.declared.refusal.LogError.TheVariants.{Refused, Memory, Io}
use Rattle.log_file.specs.declared.refusal.LogRefusal.{LogRefusal}
use Rattle.log_file.specs.declared.refusal.LogRefusal.TheVariants.{NotRead, InUse}
use Rattle.log_file.specs.Steps.{FileStep, bytes_after, appended_in}
use Rattle.log_file.specs.Logged.{LogState}
use Rattle.log_file.specs.Mending.{MendsTo, IsRefused}

-- the line that begins a run under the whole layout
abbrev pub run_line : LayoutState → ℕ → DurableState → List ℕ
run_line layout i first = opening_text layout i layout.sites first ++ codes "\n"

module _ {F : Type 0} where
  -- a file that had so many bytes keeps the first ones, and has this text behind them
  pub record Puts (g : Ghosts F) (old new : F) (size kept : ℕ) (text : List ℕ) : Type 0 where
    pub steps : List FileStep
    pub did : g.did old steps new
    pub leaves : (bytes : List ℕ) → length bytes ≡ size → bytes_after bytes steps ≡ take kept bytes ++ text
    pub appended : appended_in steps ≡ text

  -- .. and is the file of a log that has no entry yet
  pub record BeginsLog (g : Ghosts F) (file : F) (size kept : ℕ) (text : List ℕ) (layout : LayoutState) (log : LogState F) : Type 0 where
    pub puts : Puts g file log.file size kept text
    pub named_by : log.layout ≡ layout
    pub length_is : log.length ≡ kept + length text
    pub running : log.failed ≡ false

  -- the answer to a file
  abbrev pub IsBegunLog : Ghosts F → F → ℕ → ℕ → List ℕ → LayoutState → Result (LogState F) LogError → Type 0
  IsBegunLog g file size kept text layout (Ok log) = BeginsLog g file size kept text layout log
  IsBegunLog g file size kept text layout (Err Memory) = Unit {0}
  IsBegunLog g file size kept text layout (Err Io) = (after : F) × g.has_failed after
  IsBegunLog g file size kept text layout (Err (Refused refusal)) = ⊥

  -- A file was held against others, and then all that it gave was read, and it was mended; what was appended to it is the
  -- text that mends it, and the line of the new run.
  pub record OpensLog (hold : HoldGhosts F) (remaining contents : F → Option (List ℕ)) (layout : LayoutState) (i : ℕ) (first : DurableState) (log : LogState (SystemFile F)) : Type 0 where
    pub opened : F
    pub held : hold.is_held opened
    pub read : F
    pub bytes : List ℕ
    pub gave : Consumes (remaining opened) (remaining read) bytes
    pub at_end : IsAtEnd (remaining read)
    pub kept : ℕ
    pub tail : List ℕ
    pub mends : MendsTo layout i bytes first kept tail
    pub appended : Appends (contents read) (contents log.file.file) (tail ++ run_line layout i first)
    pub named_by : log.layout ≡ layout
    pub length_is : log.length ≡ kept + length (tail ++ run_line layout i first)
    pub running : log.failed ≡ false

  -- a file was held against others, and then all that it gave was read, and is refused so
  pub record RefusesLog (hold : HoldGhosts F) (remaining : F → Option (List ℕ)) (layout : LayoutState) (i : ℕ) (first : DurableState) (refusal : LogRefusal) : Type 0 where
    pub opened : F
    pub held : hold.is_held opened
    pub read : F
    pub bytes : List ℕ
    pub gave : Consumes (remaining opened) (remaining read) bytes
    pub at_end : IsAtEnd (remaining read)
    pub refused : IsRefused layout i bytes first (Refused refusal)

  -- The answer to a path. Another holds a file that is in use. A file that is refused otherwise was read, and nothing was
  -- written to it; nothing can be said of one that was not read.
  abbrev pub IsOpenedLog : HoldGhosts F → (F → Option (List ℕ)) → (F → Option (List ℕ)) → LayoutState → ℕ → DurableState → Result (LogState (SystemFile F)) LogError → Type 0
  IsOpenedLog hold remaining contents layout i first (Ok log) = OpensLog hold remaining contents layout i first log
  IsOpenedLog hold remaining contents layout i first (Err (Refused NotRead)) = Unit {0}
  IsOpenedLog hold remaining contents layout i first (Err (Refused InUse)) = (opened : F) × hold.is_in_use opened
  IsOpenedLog hold remaining contents layout i first (Err (Refused refusal)) = RefusesLog hold remaining layout i first refusal
  IsOpenedLog hold remaining contents layout i first (Err Memory) = Unit {0}
  IsOpenedLog hold remaining contents layout i first (Err Io) = Unit {0}
