-- What the lines of an input are to `join`: texts of deltas that are taken, up to the first that is refused.
use Rattle.std.specs.Prelude.{◌≡◌, ℕ, ◌+◌, ◌⊎◌, ◌↔◌, List, [], ◌∷◌, ◌++◌, length, map, Err}
use Rattle.std.specs.List.{AllByRecursion}
use Rattle.merge_core.specs.declared.cell.Cell.{Cell}
use Rattle.merge_core.specs.Layout.{Shape}
use Rattle.merge_core.specs.Delta.{DeltaState, IsDelta}
use Rattle.merge_core.specs.Rows.{start_counter}
use Rattle.merge_core.specs.Naming.{greatest_shown}
use Rattle.merge_core.specs.Book.{BookState, IsBook, counter_of, book_shape}
use Rattle.merge_core.specs.Check.{IsChecked, IsCheckOf}
use Rattle.delta_codec.specs.declared.fault.DecodeError.TheVariants.{Memory}
use Rattle.delta_codec.specs.DeltaText.{delta_text}
use Rattle.delta_codec.specs.Decodes.{Decodes}
use Rattle.join_engine.specs.declared.fault.LineFault.{LineFault}
use Rattle.join_engine.specs.declared.fault.LineFault.TheVariants.{Unread, Unfit}

-- the greatest that the start or one of the deltas shows of a counter
abbrev pub joined_counter : Shape → List DeltaState → ℕ → ℕ → Cell → ℕ
joined_counter shape ds r s cell = greatest_shown shape (start_counter shape r s cell) ds r s cell

-- a book of this shape, each of whose counters is the greatest that the start or one of the deltas shows
pub record IsJoinOf (shape : Shape) (ds : List DeltaState) (b : BookState) : Type 0 where
  pub one_shape : book_shape b ≡ shape
  pub counters : (r s : ℕ) (cell : Cell) → counter_of b r s cell ≡ joined_counter shape ds r s cell
  pub book : IsBook b

-- a delta that books of this shape take
pub record IsTaken (shape : Shape) (d : DeltaState) : Type 0 where
  pub delta : IsDelta d
  pub checked : IsChecked shape d.rows

-- the lines are, one by one, the texts of these deltas, and each delta is taken
pub record AreTexts (shape : Shape) (lines : List (List ℕ)) (ds : List DeltaState) : Type 0 where
  pub texts : lines ≡ map delta_text ds
  pub taken : AllByRecursion (IsTaken shape) ds

-- why a line is refused: it is no delta's text, for the reason that `decode` tells; or books of this shape
-- do not take the delta whose text it is
abbrev pub IsFaultOf : Shape → List ℕ → LineFault → Type 0
IsFaultOf shape line (Unread e) = Decodes line (Err e) × ¬ (e ≡ Memory)
IsFaultOf shape line (Unfit e) = (d : DeltaState) × IsDelta d × (line ≡ delta_text d) × IsCheckOf shape d.rows (Err e)

-- the first line that is refused, counted from 1: the lines before it are texts of deltas that are taken
pub record IsFirstRefused (shape : Shape) (lines : List (List ℕ)) (number : ℕ) (fault : LineFault) : Type 0 where
  pub deltas : List DeltaState
  pub before : List (List ℕ)
  pub line : List ℕ
  pub after : List (List ℕ)
  pub split : lines ≡ before ++ line ∷ after
  pub joined : AreTexts shape before deltas
  pub counted : number ≡ length before + 1
  pub refused : IsFaultOf shape line fault

-- a delta is one of these
abbrev pub IsAmong : DeltaState → List DeltaState → Type 0
IsAmong d [] = ⊥
IsAmong d (e ∷ es) = (d ≡ e) ⊎ IsAmong d es

-- the same deltas, in whatever order and however often
abbrev pub SameDeltas : List DeltaState → List DeltaState → Type 0
SameDeltas ds es = (d : DeltaState) → IsAmong d ds ↔ IsAmong d es
