use Rattle.std.proofs.Common.{length}
use Rattle.exchange_tests.proofs.sites.parts_of.Given as goal

abbrev pub decreases-ports : goal.decreases-ports
decreases-ports g l = length l.ports.items
