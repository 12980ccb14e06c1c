use Rattle.std.proofs.Common.{sym, subst, ◌≡◌, ℕ, List, arith}
use Rattle.std.proofs.lemmas.Grind.{common_steps}
use Rattle.rights_matrix.proofs.RightsLemmas.{makes_read, moves_read}
use Rattle.rights_matrix.proofs.rights.Rights.raise_to.Goals as goal

pub returns-clause-makes : goal.returns-clause-makes
returns-clause-makes c =
    λ same. makes_read _ _ _ _ _ c.self.view_is c.self.invariant c.requires.from (rw (← same) at c.add.ensures)

pub returns-clause-moves : goal.returns-clause-moves
returns-clause-moves c = λ apart. moves_read _ _ _ _ _ _ c.self.view_is c.self.invariant c.requires.from c.requires.to (λ e. apart (sym e)) c.add.ensures

pub invariant_of-self : goal.invariant_of-self
invariant_of-self c = grind (arith, common_steps)

pub returns-clause-by : goal.returns-clause-by
returns-clause-by c = grind (arith, common_steps)

pub returns-clause-matrix : goal.returns-clause-matrix
returns-clause-matrix c = grind (arith, common_steps)
