use Rattle.std.proofs.Common.{arith}
use Rattle.std.proofs.lemmas.Grind.{common_steps}
use Rattle.rights_matrix.proofs.RightsLemmas.{makes_read}
use Rattle.rights_matrix.proofs.rights.Rights.give_back.Goals as goal

pub returns-clause-rights : goal.returns-clause-rights
returns-clause-rights c = makes_read _ _ _ _ _ c.self.view_is c.self.invariant c.requires.site c.add.ensures

pub returns-clause-state : goal.returns-clause-state
returns-clause-state c = grind (arith, common_steps)
