-- What is known of a writer (this project's own): the bytes that it took, the fault that it met, and whether it
-- handed all of them on.
use Rattle.std.specs.Prelude.{◌≡◌, ℕ, Bool, false, List, Option, IfSome}
use Rattle.std.specs.Io.KnownBytes.{Appends}
use Rattle.std.specs.declared.io.ErrorKind.{ErrorKind}

pub record SinkState : Type 0 where
  -- what was written, where that is known
  pub contents : Option (List ℕ)
  -- the kind of the fault that a write or a flush met
  pub fault : Option ErrorKind
  -- some bytes may not be handed on yet
  pub holds : Bool

-- the text was written behind what was there and handed on, with no new fault
pub record Writes (old new : SinkState) (text : List ℕ) : Type 0 where
  pub appended : Appends old.contents new.contents text
  pub handed_on : new.holds ≡ false
  pub kept : new.fault ≡ old.fault

-- a value was written behind what was there and handed on, with no new fault; which text that is, is known of some
-- values alone
pub record Prints (old new : SinkState) (text : Option (List ℕ)) : Type 0 where
  pub appended : IfSome text (Appends old.contents new.contents)
  pub handed_on : new.holds ≡ false
  pub kept : new.fault ≡ old.fault
