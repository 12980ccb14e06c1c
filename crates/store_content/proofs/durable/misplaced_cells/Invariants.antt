-- No counter so far is out of its place.
use Rattle.std.proofs.Common.{◌≡◌, [], drop}
use Rattle.store_content.specs.Content.{misplaced_cells}
use Rattle.store_content.proofs.durable.misplaced_cells.Given as goal

abbrev pub invariant-loop-cell : goal.invariant-loop-cell
invariant-loop-cell l = record { none : l.all.items ≡ []; left : misplaced_cells l.cells ≡ misplaced_cells (drop l.cell-index l.cells) }
