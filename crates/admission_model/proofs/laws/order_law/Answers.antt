use Rattle.admission_model.proofs.ArrivalLemmas.{sessions_by_last}
use Rattle.admission_model.proofs.laws.order_law.Goals as goal

pub returns : goal.returns
returns c = sessions_by_last
