-- A log in a file, as contracts see it, and what it was handed.
use Rattle.std.specs.Prelude.{◌≡◌, ℕ, ◌+◌, ◌⊎◌, Bool, true, List, [], ◌∷◌, ◌++◌, length, Option, None, Some}
use Rattle.merge_core.specs.Layout.{LayoutState}
use Rattle.desk_log.specs.declared.entry.Entry.{Entry}
use Rattle.transcript_text.specs.Texts.{entries_text}
use Rattle.log_file.specs.declared.file.LogFile.{Ghosts}
use Rattle.log_file.specs.Steps.{FileStep, bytes_after}

-- the file, the layout by which records are named, how many bytes the file has and had before its last entry, and whether
-- a call has failed
pub record LogState (F : Type 0) : Type 0 where
  pub file : F
  pub layout : LayoutState
  pub length : ℕ
  pub last : Option ℕ
  pub failed : Bool

module _ {F : Type 0} where
  -- why a log fails: its file has, or it was to take back an entry where it has taken one back already
  abbrev pub HasReason : Ghosts F → LogState F → Type 0
  HasReason g l = g.has_failed l.file ⊎ (l.last ≡ None)

  -- every log
  pub record IsSound (g : Ghosts F) (l : LogState F) : Type 0 where
    pub reason : l.failed ≡ true → HasReason g l

  -- a call of the log has failed
  pub record HasFailed (g : Ghosts F) (l : LogState F) : Type 0 where
    pub failed : l.failed ≡ true
    pub reason : HasReason g l

  -- From the first state to the last the log was handed these entries: what was done to its file leaves behind the bytes
  -- that it had the line of each entry, in order, and nothing else.
  pub record HasLogged (g : Ghosts F) (first : LogState F) (entries : List Entry) (last : LogState F) : Type 0 where
    pub steps : List FileStep
    pub did : g.did first.file steps last.file
    pub leaves : (bytes : List ℕ) → length bytes ≡ first.length
        → bytes_after bytes steps ≡ bytes ++ entries_text first.layout.records entries
    pub layout : last.layout ≡ first.layout
    pub length_is : last.length ≡ first.length + length (entries_text first.layout.records entries)
    pub last_is : (before : List Entry) (e : Entry) → entries ≡ before ++ e ∷ [] → (n : ℕ) → last.last ≡ Some n
        → n ≡ first.length + length (entries_text first.layout.records before)
