use Rattle.std.proofs.Common.{◌≡◌, ◌==◌, not}
use Rattle.rights_matrix.specs.Matrix.{entry}
use Rattle.merge_core.specs.declared.cell.Cell.TheVariants.{Out}
use Rattle.merge_core.specs.Sums.{total, one_if}
use Rattle.merge_core.specs.Kept.{start_in}
use Rattle.merge_core.proofs.book.snapshot.has_moved_rights.Given as goal

abbrev pub invariant-loop-j : goal.invariant-loop-j
invariant-loop-j l = total l.j (λ k. one_if (not (entry l.it.seats.matrix l.s k == start_in l.it l.s (Out k)))) ≡ 0
