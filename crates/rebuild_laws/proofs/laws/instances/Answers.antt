use Rattle.rebuild_laws.proofs.InstanceLemmas.{may_lose, cannot_spare, may_settle}
use Rattle.rebuild_laws.proofs.laws.instances.Goals as goal

pub returns-clause-may_lose : goal.returns-clause-may_lose
returns-clause-may_lose c = may_lose

pub returns-clause-cannot_spare : goal.returns-clause-cannot_spare
returns-clause-cannot_spare c = cannot_spare

pub returns-clause-may_settle : goal.returns-clause-may_settle
returns-clause-may_settle c = may_settle
