use Rattle.rights_matrix.proofs.JoinLemmas.{join_keeps}
use Rattle.rights_matrix.proofs.rights.Rights.join.Goals as goal

pub invariant_of-self : goal.invariant_of-self
invariant_of-self c = join_keeps _ _ _ _ c.join.new.self c.self.view_is c.other.view_is c.self.invariant c.other.invariant c.requires c.join.ensures.rows

pub returns-clause-matrix : goal.returns-clause-matrix
returns-clause-matrix c = join_keeps _ _ _ _ c.join.new.self c.self.view_is c.other.view_is c.self.invariant c.other.invariant c.requires c.join.ensures.rows
