use Rattle.std.proofs.Common.{ℕ, ◌<◌}
use Rattle.merge_core.specs.Book.{counter_of}
use Rattle.site_rebuild.specs.Rebuilt.{gone_of, IsUnusedAt}
use Rattle.site_rebuild.proofs.acting.are_rows_unused.Given as goal

abbrev pub invariant-loop-r : goal.invariant-loop-r
invariant-loop-r l = (r : ℕ) → r < l.r → IsUnusedAt l.layout (gone_of l.lost) l.site (counter_of l.book) r
