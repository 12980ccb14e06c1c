use Rattle.std.proofs.Common.{◌≡◌, ℕ, ◌+◌, Bool, List, [], ◌∷◌, ◌++◌, length, refl, sym, ap, subst, ◌∙◌}
use Rattle.log_replay.specs.declared.replay.RunEnd.{RunEnd}
use Rattle.log_replay.specs.Replay.{IsRunEnd, IsGood, IsOnPath}
use Rattle.log_replay.proofs.ReplayLemmas.{IsPlaced, placed, passed, no_joint, no_reply}
use Rattle.log_replay.proofs.replay.replay_next.Goals as goal

pub replay_run-requires : goal.replay_run-requires
replay_run-requires c =
    let at : IsPlaced c.args.layout.now c.requires.0 c.args.core = placed c.args.layout.now c.requires.0 c.requires.1 c.requires.2 (c.args.run.now ∷ c.args.later.now) c.args.core c.args.trail.now.kept.items c.args.trail.now.at c.args.trail.now.mark.left c.args.trail.now.mark.own c.requires.3 in
    record { there = (at.account, at.stands); records = at.records }

pub returns-in_ok-sum-in-NoReply : goal.returns-in_ok-sum-in-NoReply
returns-in_ok-sum-in-NoReply c = λ i runs cut on.
    no_reply c.args.layout.now i runs cut (c.args.run.now ∷ c.args.later.now) c.args.core c.args.trail.now.kept.items c.args.trail.now.at c.args.trail.now.mark.left c.args.trail.now.mark.own on
    c.args.run.now c.args.later.now refl c.in-NoReply.n c.in_ok-sum-in-NoReply.field-0 c.in_ok-sum-in-NoReply.ensures
    (λ a stands. subst (λ (end : RunEnd). IsRunEnd c.args.layout.now c.args.core.site a c.args.run.now c.args.later.now end) c.in-NoReply.is (c.in_ok-n.ensures.end a stands))

pub returns-in-NoJoint : goal.returns-in-NoJoint
returns-in-NoJoint c = λ i runs cut on.
    no_joint c.args.layout.now i runs cut (c.args.run.now ∷ c.args.later.now) c.args.core c.args.trail.now.kept.items c.args.trail.now.at c.args.trail.now.mark.left c.args.trail.now.mark.own on
    c.args.run.now c.args.later.now refl
    (λ a stands. subst (λ (end : RunEnd). IsRunEnd c.args.layout.now c.args.core.site a c.args.run.now c.args.later.now end) c.in-NoJoint.is (c.in_ok-n.ensures.end a stands))

pub returns-in_ok-push-in-Passed : goal.returns-in_ok-push-in-Passed
returns-in_ok-push-in-Passed c = λ i runs cut on.
    let it = passed c.args.layout.now i runs cut (c.args.run.now ∷ c.args.later.now) c.args.core c.args.trail.now.kept.items c.args.trail.now.at c.args.trail.now.mark.left c.args.trail.now.mark.own on
    c.args.run.now c.args.later.now refl c.in-Passed.next c.in-Passed.was_kept c.replay_run.new.mark.left c.replay_run.new.mark.own
    (λ a stands. subst (λ (end : RunEnd). IsRunEnd c.args.layout.now c.args.core.site a c.args.run.now c.args.later.now end) c.in-Passed.is (c.in_ok-n.ensures.end a stands))
    (λ a target stands. c.in_ok-n.ensures.mark a target stands (subst IsGood (sym c.in-Passed.is) tt)) in
    let at : c.in_ok-trail-in-Passed.field-0 ≡ c.args.trail.now.at + length c.args.run.now.entries = c.in_ok-trail-in-Passed.ensures ∙ ap (λ (n : ℕ). c.args.trail.now.at + n) c.len.ensures in
    subst (λ (kept : List Bool). IsOnPath c.args.layout.now i runs cut c.args.later.now c.in-Passed.next kept c.in_ok-trail-in-Passed.field-0 c.replay_run.new.mark.left c.replay_run.new.mark.own) (sym c.in_ok-push-in-Passed.ensures.items)
    (subst (λ (n : ℕ). IsOnPath c.args.layout.now i runs cut c.args.later.now c.in-Passed.next (c.args.trail.now.kept.items ++ c.in-Passed.was_kept ∷ []) n c.replay_run.new.mark.left c.replay_run.new.mark.own) (sym at) it)
