use Rattle.std.proofs.Common.{◌≡◌, Option, Bool, subst, ◌∙◌}
use Rattle.merge_core.specs.Layout.{at_sites}
use Rattle.log_replay.specs.Replay.{FitsNext, IsKept, tried_at}
use Rattle.log_replay.proofs.JointLemmas.{none_first, joint_some}
use Rattle.log_replay.proofs.joint.begun_core.Goals as goal

pub returns-in_default-2 : goal.returns-in_default-2
returns-in_default-2 c = λ a stands.
    none_first a c.args.left.now c.args.run.now c.args.layout.now c.args.core.site
    (subst (λ (o : Option Bool). IsKept a (tried_at a c.args.left.now) c.args.run.now.first o) c.in_default-2.is (c.in_ok-kept.ensures a stands))

pub returns : goal.returns
returns c = λ a stands.
    let told : FitsNext c.args.layout.now c.args.core c.args.run.now.sites × (c.in-Some.under ≡ at_sites c.args.run.now.sites c.args.layout.now) = rw c.in-Some.is at c.in_ok-under.ensures in
    joint_some a c.args.left.now c.args.run.now c.args.layout.now c.args.core c.in-Some.under c.in-Some-2.kept c.in-Ok.core stands c.requires told.0 told.1
    (subst (λ (o : Option Bool). IsKept a (tried_at a c.args.left.now) c.args.run.now.first o) c.in-Some-2.is (c.in_ok-kept.ensures a stands))
    (λ x reached whole more site first. c.in-Ok.ensures.own x reached whole more (c.site-site.ensures ∙ site) (c.in_ok-first.ensures ∙ first))
