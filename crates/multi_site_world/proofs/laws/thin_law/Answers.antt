use Rattle.multi_site_world.proofs.StepLaws.{thin_leaves}
use Rattle.multi_site_world.proofs.laws.thin_law.Goals as goal

pub returns : goal.returns
returns c = thin_leaves
