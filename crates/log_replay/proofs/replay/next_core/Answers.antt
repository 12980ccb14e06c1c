use Rattle.std.proofs.Common.{Bool, Option, subst}
use Rattle.admission_core.specs.Core.{Core}
use Rattle.log_replay.specs.Replay.{IsJoint, tried_at}
use Rattle.log_replay.proofs.ListLemmas.{parts}
use Rattle.log_replay.proofs.RunCode.{next_some, next_none}
use Rattle.log_replay.proofs.replay.next_core.Goals as goal

pub returns-in-Some : goal.returns-in-Some
returns-in-Some c = λ a stands.
    let run = c.run-item.result in
    let t = tried_at a c.args.left.now in
    next_some c.args.layout.now c.args.core.site a t run _ c.args.later.now c.in-Some.next c.in-Some.kept
    (parts c.args.later.now run c.in-len1-up.len_at_least c.run-item.is)
    (subst (λ (o : Option (Core × Bool)). IsJoint c.args.layout.now c.args.core.site a t run o) c.in-Some.is (c.in_ok-next.ensures a stands))

pub returns-in-None : goal.returns-in-None
returns-in-None c = λ a stands.
    let run = c.run-item.result in
    let t = tried_at a c.args.left.now in
    next_none c.args.layout.now c.args.core.site a t run _ c.args.later.now
    (parts c.args.later.now run c.in-len1-up.len_at_least c.run-item.is)
    (subst (λ (o : Option (Core × Bool)). IsJoint c.args.layout.now c.args.core.site a t run o) c.in-None.is (c.in_ok-next.ensures a stands))
