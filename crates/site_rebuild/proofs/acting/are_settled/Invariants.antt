use Rattle.std.proofs.Common.{ℕ, ◌<◌}
use Rattle.merge_core.specs.Book.{counter_of}
use Rattle.site_rebuild.specs.Rebuilt.{gone_of, AreSettledAt}
use Rattle.site_rebuild.proofs.acting.are_settled.Given as goal

abbrev pub invariant-loop-j : goal.invariant-loop-j
invariant-loop-j l = (j : ℕ) → j < l.j → AreSettledAt l.layout (gone_of l.lost) l.site (counter_of l.book) l.r j
