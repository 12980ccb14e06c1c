-- Which deltas a book takes: all rows of a delta, or none.
use Rattle.std.specs.Prelude.{◌≡◌, List, None, Some, Result, Ok, Err}
use Rattle.merge_core.specs.declared.delta.Row.{Row}
use Rattle.merge_core.specs.declared.check.CheckError.{CheckError}
use Rattle.merge_core.specs.declared.check.CheckError.TheVariants.{OtherLayout, BadRow}
use Rattle.merge_core.specs.Layout.{Shape}
use Rattle.merge_core.specs.Tests.{is_placed, is_valid, first_failing}

-- each row has its place in the layout, and is one that its site can show
pub record IsChecked (shape : Shape) (rows : List Row) : Type 0 where
  pub placed : first_failing (is_placed shape) rows ≡ None
  pub valid : first_failing (is_valid shape) rows ≡ None

-- the answer to a delta's rows: the least row without a place, else the least row that is not valid
abbrev pub IsCheckOf : Shape → List Row → Result (Unit {0}) CheckError → Type 0
IsCheckOf shape rows (Ok _) = IsChecked shape rows
IsCheckOf shape rows (Err (OtherLayout i)) = first_failing (is_placed shape) rows ≡ Some i
IsCheckOf shape rows (Err (BadRow i)) = (first_failing (is_placed shape) rows ≡ None) × (first_failing (is_valid shape) rows ≡ Some i)
