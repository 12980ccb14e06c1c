use Rattle.std.proofs.Common.{ℕ, ◌<◌}
use Rattle.merge_core.specs.Rows.{counters_of}
use Rattle.log_judge.specs.Excess.{IsAbove, own_in}
use Rattle.log_judge.proofs.keeping.are_within.Given as goal

abbrev pub invariant-sites : goal.invariant-sites
invariant-sites l = (k : ℕ) → k < l.s → (r : ℕ) → ¬ IsAbove (counters_of (own_in l.tables k r)) (counters_of (own_in l.others k r))
