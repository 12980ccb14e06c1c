use Rattle.std.proofs.Common.{◌≡◌, ◌≤◌, ◌*◌, take, sum_by, slice_index}
use Rattle.rights_matrix.proofs.rights.column_sum.Given as goal

abbrev pub invariant-loop-k : goal.invariant-loop-k
invariant-loop-k l = record {
  so_far : l.all ≡ sum_by (λ row. slice_index row l.i) (take l.k l.cells);
  small : l.all ≤ l.k * 2000000000000;
}
