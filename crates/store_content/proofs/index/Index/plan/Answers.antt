-- The rows are those of the change, and so they make it.
use Rattle.std.proofs.Common.{ap, sym, subst, ◌∙◌}
use Rattle.admission_model.specs.Durable.{AreRising}
use Rattle.store_content.specs.Plan.{LacksPlace, cells_of, edit_of, notices_of}
use Rattle.store_content.proofs.LawLemmas.{makes}
use Rattle.store_content.proofs.index.Index.plan.Goals as goal

pub returns-clause-law : goal.returns-clause-law
returns-clause-law c =
    λ it knows is tell.
    makes c.args.change.now it _ is tell (record {
      cells = c.in_ok-cells.ensures ∙ ap cells_of c.cells.ensures;
      notices = c.in_ok-notices.ensures it knows (subst AreRising (sym c.cells-2.ensures) tell.rising) ∙ ap (λ l. notices_of l it) c.cells-2.ensures;
      edit = (c.in-Ok.ensures it knows).0 ∙ ap (λ s. edit_of s it) c.session.ensures;
      room = subst (λ s. LacksPlace s it → ⊥) c.session.ensures (c.in-Ok.ensures it knows).1;
    })

-- where no place is left, the edit was refused first
pub returns-in_err-cells-clause-full : goal.returns-in_err-cells-clause-full
returns-in_err-cells-clause-full c it knows lacks =
    absurd ((c.in-Ok.ensures it knows).1 (subst (λ s. LacksPlace s it) (sym c.session.ensures) lacks))

pub returns-in_err-notices-clause-full : goal.returns-in_err-notices-clause-full
returns-in_err-notices-clause-full c it knows lacks =
    absurd ((c.in-Ok.ensures it knows).1 (subst (λ s. LacksPlace s it) (sym c.session.ensures) lacks))

pub returns-clause-full : goal.returns-clause-full
returns-clause-full c it knows lacks =
    absurd ((c.in-Ok.ensures it knows).1 (subst (λ s. LacksPlace s it) (sym c.session.ensures) lacks))
