use Rattle.admission_model.proofs.ReasonLemmas.{reason_told}
use Rattle.admission_model.proofs.laws.reason_law.Goals as goal

pub returns : goal.returns
returns c = reason_told
