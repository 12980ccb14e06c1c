use Rattle.admission_model.proofs.StandsLemmas.{same_reply, same_step}
use Rattle.admission_model.proofs.laws.stands_law.Goals as goal

pub returns-clause-reply : goal.returns-clause-reply
returns-clause-reply c = same_reply

pub returns-clause-step : goal.returns-clause-step
returns-clause-step c = same_step
