use Rattle.std.proofs.Common.{◌≡◌, ◌+◌, ◌≤◌, length, drop, vec_len, vec_capacity}
use Rattle.admission_core.specs.Durable.{AreRising, put_cells}
use Rattle.durable_keeper.proofs.cells.put_all_reserved.Given as goal

abbrev pub invariant-cells : goal.invariant-cells
invariant-cells l = record {
  within : l.left ≤ length l.put;
  rising : AreRising l.kept.items;
  room : vec_len l.kept + l.left ≤ vec_capacity l.kept;
  done : l.kept.items ≡ put_cells (drop l.left l.put) l.initial.kept.items;
}

abbrev pub decreases-cells : goal.decreases-cells
decreases-cells l = l.left
