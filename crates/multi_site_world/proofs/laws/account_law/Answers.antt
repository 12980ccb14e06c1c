use Rattle.multi_site_world.proofs.ReachedLemmas.{all_reached}
use Rattle.multi_site_world.proofs.laws.account_law.Goals as goal

pub returns : goal.returns
returns c = all_reached
