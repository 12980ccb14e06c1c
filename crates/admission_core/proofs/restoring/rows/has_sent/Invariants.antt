use Rattle.std.proofs.Common.{◌≡◌, ◌==◌, not}
use Rattle.merge_core.specs.declared.cell.Cell.TheVariants.{Out}
use Rattle.merge_core.specs.Layout.{shape_of}
use Rattle.merge_core.specs.Rows.{start_counter}
use Rattle.merge_core.specs.Sums.{total, one_if}
use Rattle.admission_core.specs.Restored.{counters_in}
use Rattle.admission_core.proofs.restoring.rows.has_sent.Given as goal

abbrev pub invariant-loop-j : goal.invariant-loop-j
invariant-loop-j l =
    total l.j (λ k. one_if (not (counters_in l.layout l.site l.table l.r l.s (Out k) == start_counter (shape_of l.layout) l.r l.s (Out k)))) ≡ 0
