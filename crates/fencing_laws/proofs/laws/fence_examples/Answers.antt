use Rattle.fencing_laws.proofs.InstanceLemmas.{reached, whole_well, both_well, thin_not_well}
use Rattle.fencing_laws.proofs.laws.fence_examples.Goals as goal

pub returns-clause-reached : goal.returns-clause-reached
returns-clause-reached c = reached

pub returns-clause-whole_well : goal.returns-clause-whole_well
returns-clause-whole_well c = whole_well

pub returns-clause-both_well : goal.returns-clause-both_well
returns-clause-both_well c = both_well

pub returns-clause-thin_not_well : goal.returns-clause-thin_not_well
returns-clause-thin_not_well c = thin_not_well
