use Rattle.std.proofs.Common.{◌≡◌, false, ℕ, ◌<◌, get_or}
use Rattle.merge_core.specs.Delta.{DeltaState}
use Rattle.site_rebuild.specs.Rebuilt.{gone_of}
use Rattle.site_rebuild.proofs.acting.are_of_others.Given as goal

abbrev pub invariant-loop-k : goal.invariant-loop-k
invariant-loop-k l = (k : ℕ) (d : DeltaState) → k < l.k → gone_of l.lost (get_or l.deltas k d).from ≡ false
