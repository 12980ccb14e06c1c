use Rattle.std.proofs.Common.{◌≡◌, ◌≤◌, ◌*◌, sum_by, take}
use Rattle.merge_core.specs.Book.{counter_of}
use Rattle.admission_core.specs.Joining.{row_raises}
use Rattle.admission_core.proofs.site_core.SiteCore.raised_by.Given as goal

abbrev pub invariant-loop-row : goal.invariant-loop-row
invariant-loop-row l = record {
  counted : l.risen ≡ sum_by (row_raises l.self.book.sites (counter_of l.self.book)) (take l.row-index l.row-items);
  few : l.risen ≤ 19 * l.row-index;
}
