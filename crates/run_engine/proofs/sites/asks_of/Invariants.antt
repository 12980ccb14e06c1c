use Rattle.std.proofs.Common.{◌≡◌, ◌++◌, length}
use Rattle.run_engine.specs.Scripts.{asks_of}
use Rattle.run_engine.proofs.sites.asks_of.Given as goal

abbrev pub invariant-asked : goal.invariant-asked
invariant-asked l = l.asks.items ++ asks_of l.site l.rest ≡ asks_of l.site l.asked

abbrev pub decreases-asked : goal.decreases-asked
decreases-asked l = length l.rest
