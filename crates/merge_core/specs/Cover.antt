-- Which rows tell a book nothing new: the order of the state-based types of Shapiro et al. (2011), read row by row.
use Rattle.std.specs.Prelude.{◌<◌, ◌≤◌, length}
use Rattle.merge_core.specs.declared.cell.Cell.{Cell}
use Rattle.merge_core.specs.declared.delta.Row.{Row}
use Rattle.merge_core.specs.Rows.{counter_in, counters_of}
use Rattle.merge_core.specs.Book.{BookState, counter_of}

-- the row has its place in the book, and none of its counters is above the book's
pub record Covers (b : BookState) (p : Row) : Type 0 where
  pub record_there : p.r < length b.records
  pub site_there : p.s < b.sites
  pub few_sites : length p.out ≤ b.sites
  pub counters : (cell : Cell) → counter_in (counters_of p) cell ≤ counter_of b p.r p.s cell
