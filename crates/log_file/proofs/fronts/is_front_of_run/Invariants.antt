use Rattle.std.proofs.Common.{ℕ, ◌+◌, ◌<◌}
use Rattle.log_file.specs.Fronting.{IsFrontAt}
use Rattle.log_file.proofs.fronts.is_front_of_run.Given as goal

abbrev pub invariant-sites : goal.invariant-sites
invariant-sites l = (m : ℕ) → m < l.n → ¬ IsFrontAt l.layout l.site (m + 1) l.bytes
