use Rattle.std.proofs.Common.{ℕ, ◌<◌}
use Rattle.admission_core.specs.Restored.{counters_in, KeepsLimits}
use Rattle.admission_core.proofs.restoring.counters.all_keep_limits.Given as goal

abbrev pub invariant-loop-r : goal.invariant-loop-r
invariant-loop-r l = (k : ℕ) → k < l.r → KeepsLimits l.layout.sites l.site (counters_in l.layout l.site l.table) k
