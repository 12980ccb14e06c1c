use Rattle.admission_model.proofs.OriginLemmas.{begins_from}
use Rattle.admission_model.proofs.RestoringLemmas.{stored_cells, stored_sessions, begun_again}
use Rattle.admission_model.proofs.laws.restoring_law.Goals as goal

pub returns-clause-origin : goal.returns-clause-origin
returns-clause-origin c = begins_from

pub returns-clause-cells : goal.returns-clause-cells
returns-clause-cells c = stored_cells

pub returns-clause-sessions : goal.returns-clause-sessions
returns-clause-sessions c = stored_sessions

pub returns-clause-restored : goal.returns-clause-restored
returns-clause-restored c = begun_again
