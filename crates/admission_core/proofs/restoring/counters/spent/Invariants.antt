use Rattle.std.proofs.Common.{◌≡◌, ◌*◌, ◌^◌, ◌≤◌}
use Rattle.merge_core.specs.declared.cell.Cell.TheVariants.{Out}
use Rattle.merge_core.specs.Sums.{total_others}
use Rattle.admission_core.specs.Restored.{counters_in}
use Rattle.admission_core.proofs.restoring.counters.spent.Given as goal

abbrev pub invariant-loop-j : goal.invariant-loop-j
invariant-loop-j l =
    (l.sum ≡ total_others l.j l.site (λ j. counters_in l.layout l.site l.table l.r l.site (Out j))) × (l.sum ≤ l.j * 2 ^ 64)
