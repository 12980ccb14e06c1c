use Rattle.admission_model.proofs.LeastLemmas.{plan_of-fits}
use Rattle.admission_model.proofs.laws.plan_law.Goals as goal

pub returns : goal.returns
returns c = λ v r plan below is. plan_of-fits v r plan below is
