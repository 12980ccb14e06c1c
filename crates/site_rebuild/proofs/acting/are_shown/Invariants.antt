use Rattle.std.proofs.Common.{ℕ, ◌<◌, ◌≤◌}
use Rattle.merge_core.specs.Book.{counter_of}
use Rattle.merge_core.specs.Layout.{shape_of}
use Rattle.merge_core.specs.declared.cell.Cell.TheVariants.{Out}
use Rattle.site_rebuild.specs.Rebuilt.{told_from}
use Rattle.site_rebuild.proofs.acting.are_shown.Given as goal

abbrev pub invariant-loop-r : goal.invariant-loop-r
invariant-loop-r l = (r : ℕ) → r < l.r → counter_of l.book r l.site (Out l.j) ≤ told_from (shape_of l.layout) l.deltas l.j r l.site (Out l.j)
