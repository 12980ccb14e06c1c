use Rattle.std.proofs.Common.{◌≡◌, length}
use Rattle.store_tables.specs.Reads.{is_chain}
use Rattle.store_tables.proofs.reads.are_rising.Given as goal

abbrev pub invariant-items : goal.invariant-items
invariant-items g l = is_chain g.T.Item.before l.rest ≡ is_chain g.T.Item.before l.fn.items

abbrev pub decreases-items : goal.decreases-items
decreases-items g l = length l.rest
