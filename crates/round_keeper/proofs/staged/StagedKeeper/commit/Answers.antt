use Rattle.std.proofs.Common.{List, sym, ap, subst, ◌∙◌}
use Rattle.std.specs.Prelude.{All}
use Rattle.std.proofs.lemmas.List.Elements.{All-push}
use Rattle.admission_core.specs.Kept.{ChangeState}
use Rattle.durable_keeper.specs.Keeping.{IsChange, changed}
use Rattle.round_keeper.specs.Rounds.{changed_all}
use Rattle.round_keeper.proofs.StagedLemmas.{changed_all-push}
use Rattle.round_keeper.proofs.staged.StagedKeeper.commit.Goals as goal

pub invariant_of-self-2 : goal.invariant_of-self-2
invariant_of-self-2 g c =
    subst (λ (cs : List ChangeState). All (IsChange (g.K.Keeper.layout c.self.inside.keeper) (g.K.Keeper.site c.self.inside.keeper)) cs)
    (sym (c.in_ok-push_copy.ensures.ok)) (All-push (IsChange (g.K.Keeper.layout c.self.inside.keeper) (g.K.Keeper.site c.self.inside.keeper)) c.self.inside.changes.items c.args.change.now c.self.invariant (rw (← c.self.view_is) at c.requires))

pub returns-clause-ok : goal.returns-clause-ok
returns-clause-ok g c = λ d kept. record {
  sound = rw (← c.self.view_is) at kept.sound;
  kept = rw (← c.self.view_is) at kept.kept;
  made = ap (changed c.args.change.now) (kept.made ∙ ap (λ s. changed_all s.changes g.B.Base.base) (sym c.self.view_is))
      ∙ (sym (changed_all-push c.self.inside.changes.items c.args.change.now g.B.Base.base)
      ∙ ap (λ cs. changed_all cs g.B.Base.base) (sym (c.in_ok-push_copy.ensures.ok)));
}
