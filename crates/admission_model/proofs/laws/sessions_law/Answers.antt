use Rattle.admission_model.proofs.LawLemmas.{sessions}
use Rattle.admission_model.proofs.laws.sessions_law.Goals as goal

pub returns : goal.returns
returns c = sessions
