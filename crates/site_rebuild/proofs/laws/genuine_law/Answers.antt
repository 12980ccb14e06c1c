use Rattle.site_rebuild.proofs.GenuineLemmas.{genuine, genuine_alone, settles_together}
use Rattle.site_rebuild.proofs.laws.genuine_law.Goals as goal

pub returns-clause-built : goal.returns-clause-built
returns-clause-built c = genuine

pub returns-clause-alone : goal.returns-clause-alone
returns-clause-alone c = genuine_alone

pub returns-clause-together : goal.returns-clause-together
returns-clause-together c = settles_together
