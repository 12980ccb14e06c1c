-- The counters of a change are put at their places, and still rise.
use Rattle.std.proofs.Common.{sym, subst}
use Rattle.admission_core.specs.Durable.{AreRising}
use Rattle.durable_keeper.proofs.CellLists.{puts_rise}
use Rattle.durable_keeper.proofs.memory.MemoryKeeperKeeper.commit.Goals as goal

pub invariant_of-self-2 : goal.invariant_of-self-2
invariant_of-self-2 c =
    subst AreRising (sym c.put_among.ensures) (puts_rise c.cells-put.result.now c.self.inside.cells.items c.self.invariant)
