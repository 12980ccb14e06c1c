use Rattle.std.proofs.Common.{◌≡◌, refl, ◌∙◌}
use Rattle.log_replay.proofs.JointLemmas.{joint_restarted}
use Rattle.log_replay.proofs.joint.restarted_core.Goals as goal

pub returns : goal.returns
returns c = λ layout a stands records next.
    let same : c.args.run.now.first ≡ c.in_ok-part.part = c.if-not-same_durable.ensures.0 refl in
    joint_restarted a c.args.run.now layout c.args.core c.restart.new.self stands next c.requires (same ∙ c.in_ok-part.ensures a stands) (c.restart.ensures a stands)
