-- The reading of lines on the way. For private clauses.
use Rattle.std.specs.Prelude.{◌≡◌, ℕ, ◌++◌, Bool, List, [], ◌∷◌, length}
use Rattle.merge_core.specs.declared.layout.RecordSpec.{RecordSpec}
use Rattle.merge_core.specs.Delta.{DeltaState}
use Rattle.rebuild_engine.specs.declared.lines.OneStop.{OneStop}
use Rattle.rebuild_engine.specs.declared.lines.OneStop.TheVariants as one
use Rattle.rebuild_engine.specs.Lines.{AreRead, IsLineFault, IsLineOf}

module _ (records : List RecordSpec) (name : List ℕ) (alone : Bool) where
  -- so many of the lines are read, and the rest is still to come
  pub record ReadsSoFar (lines rest : List (List ℕ)) (number : ℕ) (ds : List DeltaState) : Type 0 where
    pub before : List (List ℕ)
    pub split : lines ≡ before ++ rest
    pub read : AreRead records name alone before ds
    pub counted : length before ≡ number

  -- why one line is not read behind these deltas
  abbrev pub IsOneStop : List DeltaState → List ℕ → OneStop → Type 0
  IsOneStop ds line one.NoRoom = Unit {0}
  IsOneStop ds line (one.Refused fault) = IsLineFault records name alone ds line fault
