use Rattle.log_judge.proofs.UniqueLemmas.{one_verdict}
use Rattle.log_judge.proofs.laws.verdict_law.Goals as goal

pub returns : goal.returns
returns c = one_verdict
