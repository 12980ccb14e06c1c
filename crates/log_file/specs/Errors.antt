-- Steps of an opening. For private clauses.
use Rattle.std.specs.Prelude.{◌≡◌, ℕ, List, [], length, take}
use Rattle.std.specs.declared.io.ErrorKind.{ErrorKind}
use Rattle.std.specs.declared.io.ErrorKind.TheVariants.{OutOfMemory}
use Rattle.log_file.specs.declared.file.LogFile.{Ghosts}
use Rattle.log_file.specs.declared.hold.ExclusiveFile.{Ghosts as HoldGhosts}
use Rattle.log_file.specs.declared.refusal.LogError.{LogError}
use Rattle.log_file.specs.declared.refusal.LogError.TheVariants.{Refused, Memory}
use Rattle.log_file.specs.declared.refusal.LogRefusal.TheVariants.{NotRead, InUse}
use Rattle.log_file.specs.Steps.{FileStep, bytes_after, appended_in}

-- the error for a file that was not opened or read
abbrev pub open_error : ErrorKind → LogError
open_error OutOfMemory = Memory
open_error kind = Refused NotRead

-- .. or that it was not read
abbrev pub IsReadError : LogError → Type 0
IsReadError Memory = Unit {0}
IsReadError (Refused NotRead) = Unit {0}
IsReadError e = ⊥

-- a file that had so many bytes keeps the first ones alone
pub record Cuts {F : Type 0} (g : Ghosts F) (old new : F) (size kept : ℕ) : Type 0 where
  pub steps : List FileStep
  pub did : g.did old steps new
  pub leaves : (bytes : List ℕ) → length bytes ≡ size → bytes_after bytes steps ≡ take kept bytes
  pub appended : appended_in steps ≡ []

-- why a file is not held
abbrev pub IsHoldError : {F : Type 0} → HoldGhosts F → F → LogError → Type 0
IsHoldError g file (Refused InUse) = g.is_in_use file
IsHoldError g file (Refused NotRead) = g.is_unknown file
IsHoldError g file e = ⊥
