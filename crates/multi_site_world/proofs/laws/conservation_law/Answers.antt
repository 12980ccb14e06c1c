use Rattle.multi_site_world.proofs.LawLemmas.{conservation}
use Rattle.multi_site_world.proofs.laws.conservation_law.Goals as goal

pub returns : goal.returns
returns c = conservation
