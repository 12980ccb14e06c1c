use Rattle.std.proofs.Common.{◌≡◌, ◌≤◌, ◌*◌}
use Rattle.merge_core.specs.declared.cell.Cell.TheVariants.{Fin}
use Rattle.merge_core.specs.Book.{counter_of}
use Rattle.merge_core.specs.Sums.{total}
use Rattle.merge_core.specs.Counts.{counter_limit}
use Rattle.fencing_laws.proofs.number.fence_number.Given as goal

abbrev pub invariant-loop-s : goal.invariant-loop-s
invariant-loop-s l = record {
  so_far : l.number ≡ total l.s (λ k. counter_of l.core.book l.r k Fin);
  small : l.number ≤ l.s * counter_limit;
}
