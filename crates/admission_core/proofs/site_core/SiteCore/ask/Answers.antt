use Rattle.std.proofs.Common.{◌≡◌, None, sym, ap, ◌∙◌, rules}
use Rattle.admission_model.specs.declared.ask.Call.TheVariants.{Ask as AskCall}
use Rattle.admission_model.specs.View.{View}
use Rattle.admission_model.specs.Serving.{reason, operation_of}
use Rattle.admission_core.specs.Core.{Core, core_view}
use Rattle.admission_core.specs.Prepared.{IsOperationOf}
use Rattle.admission_core.proofs.ReadyLemmas.{view_along}
use Rattle.admission_core.proofs.ServedLemmas.{served_refused, served_memory, served_answered}
use Rattle.admission_core.proofs.site_core.SiteCore.ask.Goals as goal

pub returns-in-Err : goal.returns-in-Err
returns-in-Err c = served_refused c.args.self.now (AskCall c.args.ask) c.in-Err.refusal c.in-Err.ensures

pub returns-in_default : goal.returns-in_default
returns-in_default c = served_memory c.args.self.now c.reserve_for.new.self (AskCall c.args.ask) c.reserve_for.ensures.content c.in-Ok.ensures.accepted

pub carry_out-requires-clause-accepted : goal.carry_out-requires-clause-accepted
carry_out-requires-clause-accepted c =
    let old : Core = c.args.self.now in
    let new : Core = c.reserve_for.new.self in
    let views : core_view old ≡ core_view new = sym (view_along old new c.reserve_for.ensures.content) in
    let free : reason (core_view new) (AskCall c.args.ask) ≡ None = ap (λ (v : View). reason v (AskCall c.args.ask)) (sym views) ∙ c.in-Ok.ensures.accepted in
    (c.args.ask, record { accepted = free; is = c.in-Ok.ensures.is_operation ∙ ap (λ (v : View). operation_of v c.args.ask) views })

pub returns : goal.returns
returns c =
    let old : Core = c.args.self.now in
    let new : Core = c.reserve_for.new.self in
    let views : core_view old ≡ core_view new = sym (view_along old new c.reserve_for.ensures.content) in
    let free : reason (core_view old) (AskCall c.args.ask) ≡ None = c.in-Ok.ensures.accepted in
    let free_there : reason (core_view new) (AskCall c.args.ask) ≡ None = ap (λ (v : View). reason v (AskCall c.args.ask)) (sym views) ∙ free in
    let it : IsOperationOf new c.args.ask c.in-Ok.decision.operation = record { accepted = free_there; is = c.in-Ok.ensures.is_operation ∙ ap (λ (v : View). operation_of v c.args.ask) views } in
    served_answered old new c.carry_out.new.self (AskCall c.args.ask) c.in-Ok.decision.answer c.reserve_for.ensures.content free c.in-Ok.ensures.is_answer
    (λ a stands. c.carry_out.ensures c.args.ask it a stands)

pub carry_out-requires-clause-place : goal.carry_out-requires-clause-place
carry_out-requires-clause-place c = search rules
