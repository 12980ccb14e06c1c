use Rattle.std.proofs.Common.{ℕ, ◌<◌}
use Rattle.log_judge.specs.Cut.{IsExcess}
use Rattle.log_judge.proofs.judging.compared.Given as goal

abbrev pub invariant-sites : goal.invariant-sites
invariant-sites l = (k : ℕ) → k < l.i → (at r s : ℕ) → ¬ IsExcess l.layout l.transcripts l.cut k at r s
