use Rattle.std.proofs.Common.{◌≡◌}
use Rattle.merge_core.specs.declared.cell.Cell.TheVariants.{Out}
use Rattle.merge_core.specs.Moved.{first_numbers}
use Rattle.admission_core.specs.Restored.{counters_in}
use Rattle.admission_core.proofs.restoring.rows.sent_row.Given as goal

abbrev pub invariant-loop-j : goal.invariant-loop-j
invariant-loop-j l = l.out.items ≡ first_numbers l.j (λ j. counters_in l.layout l.site l.table l.r l.s (Out j))
