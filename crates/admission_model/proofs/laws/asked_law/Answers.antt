use Rattle.admission_model.proofs.OrderLemmas.{sessions_begun, sessions_asked}
use Rattle.admission_model.proofs.StandsLemmas.{known_asked}
use Rattle.admission_model.proofs.laws.asked_law.Goals as goal

pub returns-clause-base : goal.returns-clause-base
returns-clause-base c = sessions_begun

pub returns-clause-sessions : goal.returns-clause-sessions
returns-clause-sessions c = sessions_asked

pub returns-clause-counters : goal.returns-clause-counters
returns-clause-counters c = known_asked
