use Rattle.admission_model.proofs.NoticeLemmas.{announced_stay, finished_stay}
use Rattle.admission_model.proofs.laws.notices_law.Goals as goal

pub returns-clause-announced : goal.returns-clause-announced
returns-clause-announced c = announced_stay

pub returns-clause-finished : goal.returns-clause-finished
returns-clause-finished c = finished_stay
