use Rattle.std.proofs.Common.{arith}
use Rattle.std.proofs.lemmas.Grind.{common_steps}
use Rattle.grow_counters.proofs.CountsLemmas.{rise_count-same, rise_count-raised}
use Rattle.grow_counters.proofs.counts.Counts.raise_to.Goals as goal

pub returns-then-n-index-clause-risen : goal.returns-then-n-index-clause-risen
returns-then-n-index-clause-risen c = rise_count-same _

pub returns-clause-risen : goal.returns-clause-risen
returns-clause-risen c =
    rw (← c.self.view_is) (rise_count-raised c.self.inside.counters.items c.args.i _ c.args.n (rw c.self.view_is c.requires) c.index.ensures (omega arith))

pub returns-clause-counters : goal.returns-clause-counters
returns-clause-counters c = grind (arith, common_steps)

pub returns-clause-rose : goal.returns-clause-rose
returns-clause-rose c = grind (arith, common_steps)
