use Rattle.std.proofs.Common.{sym, ◌∙◌, arith}
use Rattle.std.proofs.lemmas.Grind.{common_steps}
use Rattle.rights_matrix.proofs.RightsLemmas.{moves_read, transfer_allowed}
use Rattle.rights_matrix.proofs.rights.Rights.transfer_from.Goals as goal

pub returns-clause-rights : goal.returns-clause-rights
returns-clause-rights c =
    let allowed = transfer_allowed c.args.self.now c.args.i c.args.j c.args.n c.args.rights (sym c.refusal.ensures ∙ c.in_default.is) in
    moves_read _ _ _ _ _ _ c.self.view_is c.self.invariant c.requires.from c.requires.to allowed.0 c.add.ensures

pub returns-clause-state : goal.returns-clause-state
returns-clause-state c = grind (arith, common_steps)
