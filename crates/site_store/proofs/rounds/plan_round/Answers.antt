-- The rows of each change are planned behind those of the ones before it.
use Rattle.std.proofs.Common.{[], ◌∷◌, ◌++◌, List, take, sym, subst}
use Rattle.std.proofs.lemmas.List.{take_more}
use Rattle.admission_core.specs.Kept.{ChangeState}
use Rattle.site_store.specs.Rounds.{Plans}
use Rattle.site_store.proofs.RoundLemmas.{none_planned, none_storable}
use Rattle.site_store.proofs.rounds.plan_round.Goals as goal

pub loop-change-init : goal.loop-change-init
loop-change-init c =
    let made = c.new-round.ensures in
    record {
      plans = λ it second is knows. rw (made.cells, made.notices, made.edits) (none_planned it c.args.index.now second is knows);
      storable = rw (made.cells, made.notices, made.edits) none_storable;
    }

pub loop-change-preserved : goal.loop-change-preserved
loop-change-preserved c =
    let changes = c.args.changes.now in
    let i = c.loop-change.change-index in
    let x : ChangeState = c.change-item.result in
    let round = c.plan_next.new.round in
    record {
      plans = λ it second is knows.
          subst (λ (cs : List ChangeState). Plans cs it round.cells.items round.notices.items round.edits.items c.plan_next.new.index) (sym (take_more changes i x c.loop-change-test.true))
          (subst (λ (y : ChangeState). Plans (take i changes ++ y ∷ []) it round.cells.items round.notices.items round.edits.items c.plan_next.new.index) c.change-item.is
          (c.in_ok-plan_next.ensures.plans (take i changes) it (c.loop-change.invariant.plans it second is knows)));
      storable = c.in_ok-plan_next.ensures.storable c.loop-change.invariant.storable;
    }
