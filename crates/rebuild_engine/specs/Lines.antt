-- The lines of which a site is built again (the project's own).
use Rattle.std.specs.Prelude.{◌≡◌, ◌==◌, ℕ, ◌+◌, Bool, true, false, List, [], ◌∷◌, ◌++◌, length}
use Rattle.std.specs.List.{list_any}
use Rattle.merge_core.specs.declared.layout.RecordSpec.{RecordSpec}
use Rattle.merge_core.specs.Delta.{DeltaState, IsDelta}
use Rattle.delta_codec.specs.DeltaText.{delta_text}
use Rattle.serve_engine.specs.declared.moved_texts.TextStop.TheVariants as text
use Rattle.serve_engine.specs.Moved.{IsTextStop, IsTold}
use Rattle.rebuild_engine.specs.declared.lines.LineFault.{LineFault}
use Rattle.rebuild_engine.specs.declared.lines.LineFault.TheVariants.{Text, Twice}
use Rattle.rebuild_engine.specs.declared.lines.LineStop.{LineStop}
use Rattle.rebuild_engine.specs.declared.lines.LineStop.TheVariants as stops

module _ (records : List RecordSpec) (name : List ℕ) (alone : Bool) where
  -- a line is the text of a delta, behind a mark that is taken
  abbrev pub IsLineOf : List ℕ → DeltaState → Type 0
  IsLineOf line d = IsDelta d × IsTold records name alone line (delta_text d)

  -- the lines are those of these deltas, one by one
  abbrev pub AreLinesOf : List (List ℕ) → List DeltaState → Type 0
  AreLinesOf [] [] = Unit {0}
  AreLinesOf [] (d ∷ ds) = ⊥
  AreLinesOf (l ∷ ls) [] = ⊥
  AreLinesOf (l ∷ ls) (d ∷ ds) = IsLineOf l d × AreLinesOf ls ds

-- one of the deltas is of the same site
abbrev pub is_from_one_of : List DeltaState → DeltaState → Bool
is_from_one_of ds d = list_any (λ e. e.from == d.from) ds

-- no two are of one site
abbrev pub AreOnce : List DeltaState → Type 0
AreOnce [] = Unit {0}
AreOnce (d ∷ ds) = (is_from_one_of ds d ≡ false) × AreOnce ds

module _ (records : List RecordSpec) (name : List ℕ) (alone : Bool) where
  -- the lines are those of these deltas, each of another site
  abbrev pub AreRead : List (List ℕ) → List DeltaState → Type 0
  AreRead lines ds = AreLinesOf records name alone lines ds × AreOnce ds

  -- why a line behind those of these deltas is refused
  abbrev pub IsLineFault : List DeltaState → List ℕ → LineFault → Type 0
  IsLineFault ds line (Text fault) = IsTextStop records name alone line (text.Refused fault)
  IsLineFault ds line Twice = (d : DeltaState) × IsLineOf records name alone line d × (is_from_one_of ds d ≡ true)

  -- the first line that is refused, counted from 1
  pub record IsFirstRefused (lines : List (List ℕ)) (number : ℕ) (fault : LineFault) : Type 0 where
    pub deltas : List DeltaState
    pub before : List (List ℕ)
    pub line : List ℕ
    pub after : List (List ℕ)
    pub split : lines ≡ before ++ line ∷ after
    pub read : AreRead before deltas
    pub counted : number ≡ length before + 1
    pub refused : IsLineFault deltas line fault

  -- how the reading of lines stops
  abbrev pub StopsAt : List (List ℕ) → LineStop → Type 0
  StopsAt lines stops.NoRoom = Unit {0}
  StopsAt lines (stops.Refused it) = IsFirstRefused lines it.number it.fault
