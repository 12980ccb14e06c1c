use Rattle.merge_core.proofs.ThinLaws.{thin_tells}
use Rattle.merge_core.proofs.laws.thin_law.Goals as goal

pub returns : goal.returns
returns c = thin_tells
