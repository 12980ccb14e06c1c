-- What is known of a reader (this project's own): the bytes that it will give, and the fault that it met.
use Rattle.std.specs.Prelude.{◌≡◌, ◌≢◌, ◌⊎◌, ℕ, true, List, Option, Some, is_some}
use Rattle.std.specs.declared.io.ErrorKind.{ErrorKind}
use Rattle.std.specs.declared.io.ErrorKind.TheVariants.{Interrupted, OutOfMemory}

pub record SourceState : Type 0 where
  -- what reads will give from here on, where that is known
  pub remaining : Option (List ℕ)
  -- the kind of the last fault that a read met
  pub fault : Option ErrorKind

-- an interrupted read is tried again, and is no fault
abbrev pub IsNoInterruption : Option ErrorKind → Type 0
IsNoInterruption fault = fault ≢ Some Interrupted

-- a fault was met
abbrev pub HasFault : Option ErrorKind → Type 0
HasFault fault = is_some fault ≡ true

-- a fault was met that tells of want of memory
abbrev pub IsWantOfMemory : Option ErrorKind → Type 0
IsWantOfMemory fault = fault ≡ Some OutOfMemory

-- a fault of another kind was met
pub record IsFailure (fault : Option ErrorKind) : Type 0 where
  pub met : HasFault fault
  pub other : fault ≢ Some OutOfMemory

-- no fault was met, or one that tells of want of memory
abbrev pub LacksMemory : Option ErrorKind → Option ErrorKind → Type 0
LacksMemory old new = (new ≡ old) ⊎ IsWantOfMemory new
