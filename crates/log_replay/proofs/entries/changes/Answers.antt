use Rattle.std.proofs.Common.{◌≡◌, [], None, false, sym, ap, subst, ◌∙◌}
use Rattle.std.specs.Prelude.{◌↔◌, IsTrue}
use Rattle.admission_model.specs.Durable.{change_between}
use Rattle.admission_core.specs.Core.{is_memory}
use Rattle.admission_core.specs.Kept.{ChangeState}
use Rattle.admission_core.proofs.ReadyLemmas.{served_after}
use Rattle.log_replay.proofs.EntryLemmas.{empty_test}
use Rattle.log_replay.proofs.entries.changes.Goals as goal

pub returns-clause-answer : goal.returns-clause-answer
returns-clause-answer c =
    let p = c.prepare-prepared.result in
    let memory : is_memory p.reply ≡ false = sym (ap is_memory c.reply.ensures) ∙ (sym c.is_memory.ensures ∙ c.if-is_memory.false) in
    let tells : IsTrue c.is_empty.result ↔ ((p.change.cells ≡ []) × (p.change.session ≡ None)) =
    subst (λ (ch : ChangeState). IsTrue c.is_empty.result ↔ ((ch.cells ≡ []) × (ch.session ≡ None))) c.change.ensures c.is_empty.ensures in
    λ a stands. empty_test a c.args.call.now p.change c.is_empty.result
    (c.prepare-prepared.ensures.change a stands ∙ ap (change_between a) (served_after a c.args.call.now p.reply memory)) tells
