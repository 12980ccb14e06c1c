-- What a restart leaves of one record.
use Rattle.std.specs.Prelude.{◌≡◌, ℕ, ◌==◌, if◌then◌else◌}
use Rattle.rights_matrix.specs.Matrix.{grant}
use Rattle.merge_core.specs.declared.cell.Cell.{Cell}
use Rattle.merge_core.specs.declared.cell.Cell.TheVariants.{Out, Taken, Ann, Fin}
use Rattle.merge_core.specs.declared.record.RecordState.{RecordState}
use Rattle.merge_core.specs.Rows.{counter_in}
use Rattle.merge_core.specs.Book.{row_in, shape_in}
use Rattle.merge_core.specs.Changes.{keeps_counter}

-- a counter of the record before any operation
abbrev pub start_in : RecordState → ℕ → Cell → ℕ
start_in it s (Out j) = if j == s then grant it.seats.matrix s else 0
start_in it s Taken = 0
start_in it s Ann = 0
start_in it s Fin = 0

pub record KeepsOwnIn (site : ℕ) (old new : RecordState) : Type 0 where
  pub shape : shape_in new ≡ shape_in old
  pub counters : (s : ℕ) (cell : Cell) → counter_in (row_in new s) cell ≡ (if keeps_counter site s cell then counter_in (row_in old s) cell else start_in old s cell)
