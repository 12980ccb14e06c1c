use Rattle.std.proofs.Common.{◌≡◌, ◌≤◌}
use Rattle.merge_core.specs.declared.cell.Cell.TheVariants.{Out}
use Rattle.merge_core.specs.Book.{counter_of}
use Rattle.merge_core.specs.Sums.{total, one_if}
use Rattle.admission_core.specs.Joining.{raises_cell}
use Rattle.admission_core.proofs.site_core.SiteCore.rises_out.Given as goal

abbrev pub invariant-loop-j : goal.invariant-loop-j
invariant-loop-j l = record {
  counted : l.risen ≡ total l.j (λ j. one_if (raises_cell (counter_of l.self.book) l.row (Out j)));
  few : l.risen ≤ l.j;
}
