-- What was prepared is carried out, and the core stands for the account after the call.
use Rattle.std.proofs.Common.{◌≡◌, List, Some, None, sym, ap, subst, ◌∙◌, Bor}
use Rattle.std.specs.Prelude.{option_map}
use Rattle.merge_core.specs.Delta.{DeltaState}
use Rattle.merge_core.specs.declared.delta.Row.{Row}
use Rattle.admission_model.specs.declared.ask.Call.TheVariants.{Merge}
use Rattle.admission_model.specs.Account.{Account}
use Rattle.admission_model.specs.Serving.{after}
use Rattle.admission_core.specs.Core.{Stands}
use Rattle.admission_core.proofs.ReadyLemmas.{ready_operation, ready_rows, ready_nothing, served_after}
use Rattle.admission_core.proofs.site_core.SiteCore.apply.Goals as goal

pub carry_out-requires-clause-accepted : goal.carry_out-requires-clause-accepted
carry_out-requires-clause-accepted c =
    let is : c.args.prepared.operation ≡ Some c.in-Some.operation = cc in
    let it = ready_operation c.args.self.now c.requires.0 c.args.prepared c.in-Some.operation c.requires.1 is in
    (it.ask, it.is_operation)

pub returns-in-Some-clause-account : goal.returns-in-Some-clause-account
returns-in-Some-clause-account c = λ call ready a stands.
    let p = c.args.prepared in
    let is : p.operation ≡ Some c.in-Some.operation = cc in
    let it = ready_operation c.args.self.now call p c.in-Some.operation ready is in
    subst (λ (b : Account). Stands b c.carry_out.new.self) (sym (served_after a call p.reply it.memory ∙ ap (after a) it.is_ask))
    (c.carry_out.ensures it.ask it.is_operation a stands)

pub returns-in-Some-heard-clause-account : goal.returns-in-Some-heard-clause-account
returns-in-Some-heard-clause-account c = λ call ready a stands.
    let p = c.args.prepared in
    let rows = c.in-Some-heard.delta.now.rows in
    let is : p.heard ≡ Some rows = sym c.into_steps-reply.ensures.heard ∙ ap (option_map (λ (d : Bor DeltaState). d.now.rows)) c.in-Some-heard.is in
    let it = ready_rows c.args.self.now call p rows ready is in
    let after_rows : List Row → Account = λ ps. after a (Merge (record { from = 0; rows = ps })) in
    subst (λ (b : Account). Stands b c.join.new.self) (sym (served_after a call p.reply it.memory ∙ (ap (after a) it.is_merge ∙ ap after_rows (sym it.same_rows))))
    (c.join.ensures.account a stands)

pub returns-clause-account : goal.returns-clause-account
returns-clause-account c = λ call ready a stands.
    let p = c.args.prepared in
    let no_operation : p.operation ≡ None = cc in
    let no_rows : p.heard ≡ None = sym c.into_steps-reply.ensures.heard ∙ ap (option_map (λ (d : Bor DeltaState). d.now.rows)) c.in_default-heard.is in
    subst (λ (b : Account). Stands b c.args.self.now) (sym (ready_nothing a c.args.self.now stands call p ready no_operation no_rows)) stands
