use Rattle.std.proofs.Common.{arith}
use Rattle.std.proofs.lemmas.Grind.{common_steps}
use Rattle.writer_notices.proofs.notices.Notices.unfinished.Goals as goal

pub loop-s-init : goal.loop-s-init
loop-s-init c = grind (arith, common_steps)
