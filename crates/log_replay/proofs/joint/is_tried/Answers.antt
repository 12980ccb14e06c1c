use Rattle.std.proofs.Common.{◌≡◌, sym, ap, subst, ◌∙◌}
use Rattle.std.specs.Prelude.{◌↔◌, IsTrue}
use Rattle.admission_core.specs.Kept.{DurableState, durable_of}
use Rattle.log_replay.proofs.RunCode.{tried_first}
use Rattle.log_replay.proofs.joint.is_tried.Goals as goal

pub returns : goal.returns
returns c = λ a stands.
    subst (λ (d : DurableState). IsTrue c.same_durable-3.result ↔ (c.args.first.now ≡ d))
    (c.in_ok-part_after.ensures a stands ∙ ap durable_of (sym (tried_first a c.args.left.now c.entry-item.result c.in-len1-up.len_at_least c.entry-item.is)))
    c.same_durable-3.ensures
