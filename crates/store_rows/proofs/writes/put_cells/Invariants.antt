use Rattle.std.proofs.Common.{Ok, take}
use Rattle.store_rows.specs.Steps.{Any, Brings, Puts, with_cells}
use Rattle.store_rows.proofs.writes.put_cells.Given as goal

abbrev pub invariant-loop-cell : goal.invariant-loop-cell
invariant-loop-cell g l = Puts g.S.Store l.cell-index Any (λ _. Brings Any (with_cells (take l.cell-index l.cells))) l.initial.tx (Ok (tt {0})) l.tx
