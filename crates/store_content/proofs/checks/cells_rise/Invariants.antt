-- Those seen so far stand each before the next.
use Rattle.std.proofs.Common.{ℕ, suc, ◌<◌, get_or}
use Rattle.std.specs.Prelude.{IsTrue}
use Rattle.store_rows.specs.declared.content.StoredCell.{StoredCell}
use Rattle.store_rows.specs.Rows.{cell_before}
use Rattle.store_content.proofs.checks.cells_rise.Given as goal

abbrev pub invariant-loop-i : goal.invariant-loop-i
invariant-loop-i l = (k : ℕ) (d : StoredCell) → suc k < l.i → IsTrue (cell_before (get_or l.cells k d) (get_or l.cells (suc k) d))
