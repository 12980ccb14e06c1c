use Rattle.log_judge.proofs.CutLemmas.{full_is_cut}
use Rattle.log_judge.proofs.laws.full_cut_law.Goals as goal

pub returns : goal.returns
returns c = full_is_cut
