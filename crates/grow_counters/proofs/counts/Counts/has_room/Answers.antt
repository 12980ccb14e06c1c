use Rattle.std.proofs.Common.{arith}
use Rattle.std.proofs.lemmas.Grind.{common_steps}
use Rattle.grow_counters.proofs.counts.Counts.has_room.Goals as goal

pub returns-then-by-most : goal.returns-then-by-most
returns-then-by-most c = grind (arith, common_steps)
