use Rattle.std.proofs.Common.{arith}
use Rattle.std.proofs.lemmas.Grind.{common_steps}
use Rattle.line_conversation.proofs.held.Held.keep.Goals as goal

pub returns-then-part-self-clause-holds : goal.returns-then-part-self-clause-holds
returns-then-part-self-clause-holds c = grind (arith, common_steps)
