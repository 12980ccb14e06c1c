use Rattle.std.proofs.Common.{rules}
use Rattle.live_site.proofs.step.is_outdated.Goals as goal

pub returns-in_default : goal.returns-in_default
returns-in_default c = search rules
