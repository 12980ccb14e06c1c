use Rattle.fencing_laws.proofs.InstanceLemmas.{token, beside, taken, waits}
use Rattle.fencing_laws.proofs.FullLemmas.{filled}
use Rattle.fencing_laws.proofs.laws.resource_examples.Goals as goal

pub returns-clause-token : goal.returns-clause-token
returns-clause-token c = token

pub returns-clause-beside : goal.returns-clause-beside
returns-clause-beside c = beside

pub returns-clause-taken : goal.returns-clause-taken
returns-clause-taken c = taken

pub returns-clause-waits : goal.returns-clause-waits
returns-clause-waits c = waits

pub returns-clause-filled : goal.returns-clause-filled
returns-clause-filled c = filled
