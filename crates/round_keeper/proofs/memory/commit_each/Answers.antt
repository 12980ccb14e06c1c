-- Each change is made behind those before it.
use Rattle.std.proofs.Common.{◌≡◌, List, [], ◌∷◌, ◌++◌, take, sym, subst, ◌∙◌}
use Rattle.std.proofs.lemmas.List.{take_more}
use Rattle.admission_core.specs.Kept.{ChangeState}
use Rattle.durable_keeper.specs.Keeping.{changed}
use Rattle.round_keeper.specs.Rounds.{changed_all}
use Rattle.round_keeper.proofs.StagedLemmas.{changed_all-push}
use Rattle.round_keeper.proofs.memory.commit_each.Goals as goal

pub loop-change-preserved : goal.loop-change-preserved
loop-change-preserved c =
    let changes = c.args.changes.now in
    let i = c.loop-change.change-index in
    let x : ChangeState = c.change-item.result in
    let first = c.args.keeper.now.part in
    let made : c.commit.new.self.part ≡ changed x (changed_all (take i changes) first) =
    sym (c.in_ok-commit.ensures.ok (changed_all (take i changes) first) (sym c.loop-change.invariant.made)) in
    record {
      made = subst (λ (cs : List ChangeState). c.commit.new.self.part ≡ changed_all cs first) (sym (take_more changes i x c.loop-change-test.true))
          (subst (λ (y : ChangeState). c.commit.new.self.part ≡ changed_all (take i changes ++ y ∷ []) first) c.change-item.is
          (made ∙ sym (changed_all-push (take i changes) x first)));
      layout = c.in_ok-commit.ensures.layout ∙ c.loop-change.invariant.layout;
      site = c.in_ok-commit.ensures.site ∙ c.loop-change.invariant.site;
    }
