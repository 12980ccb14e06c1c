use Rattle.std.proofs.Common.{arith}
use Rattle.std.proofs.lemmas.Grind.{common_steps}
use Rattle.writer_notices.proofs.notices.Notices.finish.Goals as goal

pub returns-clause-notices : goal.returns-clause-notices
returns-clause-notices c = grind (arith, common_steps)
