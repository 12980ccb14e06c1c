-- What a source lost to a reader of all that it has, up to a limit.
use Rattle.std.specs.Prelude.{◌≡◌, ℕ, ◌+◌, ◌≤◌, List, length, Result, Ok, Err, Option}
use Rattle.std.specs.Io.KnownBytes.{Consumes, IsAtEnd}
use Rattle.std.specs.declared.io.ErrorKind.{ErrorKind}
use Rattle.text_input.specs.declared.input.InputError.{InputError}
use Rattle.text_input.specs.declared.input.InputError.TheVariants.{TooLong, Memory, Io}
use Rattle.text_input.specs.Source.{IsFailure, IsWantOfMemory, LacksMemory, SourceState}

-- the most bytes of an input (this project's own limit)
abbrev pub input_limit : ℕ
input_limit = 16777216

-- the source lost these bytes, of which there are at most so many
pub record Loses (old new : SourceState) (most : ℕ) (bytes : List ℕ) : Type 0 where
  pub lost : Consumes old.remaining new.remaining bytes
  pub bounded : length bytes ≤ most

-- the source lost some bytes, at most so many
abbrev pub LosesSome : SourceState → SourceState → ℕ → Type 0
LosesSome old new most = (bytes : List ℕ) × Loses old new most bytes

-- the fault that a failed read tells of: want of memory, or another one
abbrev pub TellsFault : InputError → Option ErrorKind → Type 0
TellsFault TooLong fault = ⊥
TellsFault Memory fault = IsWantOfMemory fault
TellsFault Io fault = IsFailure fault

-- The bytes read are all that the source had, and are within the limit. Where they are not, the source lost
-- just one byte past it; and where a read failed, or memory ran out, at most one byte past it. A failed read is
-- told where a read met a fault, and there alone; one that failed for want of memory is told as that.
abbrev pub ReadsUpTo : ℕ → SourceState → SourceState → Result (List ℕ) InputError → Type 0
ReadsUpTo limit old new (Ok bytes) = Loses old new limit bytes × IsAtEnd new.remaining × (new.fault ≡ old.fault)
ReadsUpTo limit old new (Err TooLong) = (bytes : List ℕ) × Consumes old.remaining new.remaining bytes × (length bytes ≡ limit + 1) × (new.fault ≡ old.fault)
ReadsUpTo limit old new (Err Memory) = LosesSome old new (limit + 1) × LacksMemory old.fault new.fault
ReadsUpTo limit old new (Err Io) = LosesSome old new (limit + 1) × IsFailure new.fault

-- The same where each part is taken in as it comes: at the end all bytes were.
abbrev pub ReadsInto : ℕ → SourceState → SourceState → (List ℕ → Type 0) → Result (Unit {0}) InputError → Type 0
ReadsInto limit old new Takes (Ok _) = (bytes : List ℕ) × ReadsUpTo limit old new (Ok bytes) × Takes bytes
ReadsInto limit old new Takes (Err e) = ReadsUpTo limit old new (Err e)

-- the same of an engine's whole input
abbrev pub ReadsInput : SourceState → SourceState → Result (List ℕ) InputError → Type 0
ReadsInput old new answer = ReadsUpTo input_limit old new answer
