use Rattle.multi_site_world.proofs.StepLaws.{announced_stays, finished_stays}
use Rattle.multi_site_world.proofs.laws.notices_law.Goals as goal

pub returns-clause-announced : goal.returns-clause-announced
returns-clause-announced c = announced_stays

pub returns-clause-finished : goal.returns-clause-finished
returns-clause-finished c = finished_stays
