use Rattle.std.proofs.Common.{rules}
use Rattle.live_site.proofs.overfull.given_with.Goals as goal

pub returns-then-row-r : goal.returns-then-row-r
returns-then-row-r c = search rules
