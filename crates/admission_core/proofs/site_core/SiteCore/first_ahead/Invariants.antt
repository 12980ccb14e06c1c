use Rattle.std.proofs.Common.{◌≡◌, ℕ, ◌<◌, get_or}
use Rattle.merge_core.specs.Book.{counter_of}
use Rattle.merge_core.specs.declared.delta.Row.{Row}
use Rattle.admission_core.specs.Joining.{row_raises}
use Rattle.admission_core.proofs.site_core.SiteCore.first_ahead.Given as goal

abbrev pub invariant-loop-row : goal.invariant-loop-row
invariant-loop-row l =
    (k : ℕ) (d : Row) → k < l.row-index → (get_or l.row-items k d).s ≡ l.self.site → row_raises l.self.book.sites (counter_of l.self.book) (get_or l.row-items k d) ≡ 0
