use Rattle.std.proofs.Common.{◌≡◌, ◌++◌, take}
use Rattle.merge_core.specs.Book.{counter_of}
use Rattle.admission_core.specs.Joining.{raised_column}
use Rattle.admission_core.proofs.site_core.SiteCore.push_column.Given as goal

abbrev pub invariant-loop-row : goal.invariant-loop-row
invariant-loop-row l =
    l.cells.items ≡ l.initial.cells.items ++ raised_column (counter_of l.self.book) l.self.site l.first l.cell (take l.row-index l.rows)
