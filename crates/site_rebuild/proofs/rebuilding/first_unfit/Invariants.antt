use Rattle.std.proofs.Common.{ℕ, ◌<◌, get_or}
use Rattle.merge_core.specs.Delta.{DeltaState}
use Rattle.merge_core.specs.Book.{book_shape}
use Rattle.site_rebuild.specs.Rebuilt.{IsFit}
use Rattle.site_rebuild.proofs.rebuilding.first_unfit.Given as goal

abbrev pub invariant-loop-i : goal.invariant-loop-i
invariant-loop-i l = (k : ℕ) (d : DeltaState) → k < l.i → IsFit (book_shape l.book) (get_or l.deltas k d)
