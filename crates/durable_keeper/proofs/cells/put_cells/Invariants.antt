-- The cells so far, with what is left of both lists, are all.
use Rattle.std.proofs.Common.{◌≡◌, ◌+◌, ◌-◌, ◌≤◌, ◌++◌, length, drop}
use Rattle.admission_core.specs.Durable.{AreRising, put_cells}
use Rattle.durable_keeper.proofs.cells.put_cells.Given as goal

abbrev pub invariant-cells : goal.invariant-cells
invariant-cells l = record {
  first : l.i ≤ length l.put;
  second : l.j ≤ length l.kept;
  same : AreRising l.put → AreRising l.kept → l.all.items ++ put_cells (drop l.i l.put) (drop l.j l.kept) ≡ put_cells l.put l.kept;
}

abbrev pub decreases-cells : goal.decreases-cells
decreases-cells l = length l.put - l.i + (length l.kept - l.j)
