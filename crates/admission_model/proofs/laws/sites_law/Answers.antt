use Rattle.admission_model.proofs.ServingLemmas.{sites_grow}
use Rattle.admission_model.proofs.LawLemmas.{past_rows, past_sites}
use Rattle.admission_model.proofs.laws.sites_law.Goals as goal

pub returns-clause-grow : goal.returns-clause-grow
returns-clause-grow c = sites_grow

pub returns-clause-rows : goal.returns-clause-rows
returns-clause-rows c = past_rows

pub returns-clause-sent : goal.returns-clause-sent
returns-clause-sent c = past_sites
