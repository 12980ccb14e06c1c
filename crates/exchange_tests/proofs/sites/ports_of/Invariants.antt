use Rattle.std.proofs.Common.{All, IsSome, length}
use Rattle.exchange_tests.proofs.sites.ports_of.Given as goal

abbrev pub invariant-ends : goal.invariant-ends
invariant-ends g l = All (λ p. IsSome p.link) l.ports.items

abbrev pub decreases-ends : goal.decreases-ends
decreases-ends g l = length l.ends.items
