use Rattle.admission_model.proofs.LawLemmas.{kept, kept_grown, begins_again, begins_grown}
use Rattle.admission_model.proofs.laws.durable_law.Goals as goal

pub returns-clause-kept : goal.returns-clause-kept
returns-clause-kept c = kept

pub returns-clause-kept_grown : goal.returns-clause-kept_grown
returns-clause-kept_grown c = kept_grown

pub returns-clause-resumed : goal.returns-clause-resumed
returns-clause-resumed c = begins_again

pub returns-clause-resumed_grown : goal.returns-clause-resumed_grown
returns-clause-resumed_grown c = begins_grown
