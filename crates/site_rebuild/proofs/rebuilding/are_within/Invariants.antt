use Rattle.std.proofs.Common.{ℕ, ◌<◌}
use Rattle.merge_core.specs.Book.{counter_of}
use Rattle.site_rebuild.specs.Rebuilt.{gone_of, IsWithinAt}
use Rattle.site_rebuild.proofs.rebuilding.are_within.Given as goal

abbrev pub invariant-loop-r : goal.invariant-loop-r
invariant-loop-r l = (r : ℕ) → r < l.r → IsWithinAt l.layout (gone_of l.lost) (counter_of l.book) r
