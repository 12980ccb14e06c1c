use Rattle.std.proofs.Common.{arith}
use Rattle.std.proofs.lemmas.Grind.{common_steps}
use Rattle.grow_counters.proofs.counts.Counts.drop_unless.Goals as goal

pub returns-else-i-kept : goal.returns-else-i-kept
returns-else-i-kept c = grind (arith, common_steps)
