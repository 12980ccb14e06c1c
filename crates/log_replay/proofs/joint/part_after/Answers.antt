use Rattle.std.proofs.Common.{◌≡◌, false, sym, ap, ◌∙◌}
use Rattle.std.proofs.lemmas.Result.{IfOk-weaker}
use Rattle.admission_model.specs.Serving.{after}
use Rattle.admission_core.specs.Core.{is_memory}
use Rattle.log_replay.proofs.EntryLemmas.{applied}
use Rattle.log_replay.proofs.joint.part_after.Goals as goal

pub returns : goal.returns
returns c =
    let p = c.prepare-prepared.result in
    let memory : is_memory p.reply ≡ false = sym (ap is_memory c.reply.ensures) ∙ (sym c.is_memory.ensures ∙ c.if-is_memory.false) in
    IfOk-weaker c.durable.result _ _
    (λ part is a stands. is (after a c.args.call.now)
    (applied c.args.core c.prepare-prepared.new.self c.apply.new.self c.args.call.now p c.prepare-prepared.ensures.content c.prepare-prepared.ensures.ready memory c.apply.ensures.account a stands))
    c.durable.ensures
