use Rattle.std.proofs.Common.{ℕ, ◌<◌, get_or}
use Rattle.site_rebuild.proofs.rebuilding.are_there.Given as goal

abbrev pub invariant-loop-k : goal.invariant-loop-k
invariant-loop-k l = (k : ℕ) (d : ℕ) → k < l.k → get_or l.lost k d < l.sites
