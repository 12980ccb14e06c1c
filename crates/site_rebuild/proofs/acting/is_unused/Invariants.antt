use Rattle.std.proofs.Common.{◌≡◌, false, ℕ, ◌<◌}
use Rattle.merge_core.specs.Book.{counter_of}
use Rattle.site_rebuild.specs.Rebuilt.{gone_of, AreShown}
use Rattle.site_rebuild.proofs.acting.is_unused.Given as goal

abbrev pub invariant-loop-j : goal.invariant-loop-j
invariant-loop-j l = (j : ℕ) → j < l.j → gone_of l.lost j ≡ false → AreShown l.layout l.site l.deltas (counter_of l.book) j
