use Rattle.multi_site_world.proofs.GatherLaw.{gathers, gathers_answered}
use Rattle.multi_site_world.proofs.laws.gather_law.Goals as goal

pub returns-clause-rights : goal.returns-clause-rights
returns-clause-rights c = gathers

pub returns-clause-answered : goal.returns-clause-answered
returns-clause-answered c = gathers_answered
