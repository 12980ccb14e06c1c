-- What an ask prepares: a refusal, want of memory, or the answer with the change of its operation.
use Rattle.std.proofs.Common.{◌≡◌, Some, None, refl, sym, ap, subst, ◌∙◌}
use Rattle.admission_model.specs.declared.ask.Call.{Call}
use Rattle.admission_model.specs.declared.ask.Call.TheVariants.{Ask as AskCall}
use Rattle.admission_model.specs.declared.operation.Operation.{Operation}
use Rattle.admission_model.specs.Account.{seats_in, record_of}
use Rattle.admission_model.specs.Asked.{operation_change}
use Rattle.admission_model.specs.View.{View}
use Rattle.admission_model.specs.Serving.{reason, answer, operation_of}
use Rattle.admission_core.specs.Core.{Core, IsCore, core_view}
use Rattle.admission_core.specs.Carrying.{IsAllowed}
use Rattle.admission_core.specs.Prepared.{Prepared, IsReadyFor, IsChangeFor}
use Rattle.admission_core.proofs.AllowedLemmas.{allowed}
use Rattle.admission_core.proofs.ReadyLemmas.{ready_answer, ready_memory, view_along}
use Rattle.admission_core.proofs.ChangeLemmas.{refused_change, memory_change, asked_change}
use Rattle.admission_core.proofs.site_core.SiteCore.prepare_ask.Goals as goal

pub make_room-requires-clause-allowed : goal.make_room-requires-clause-allowed
make_room-requires-clause-allowed c =
    let now : Core = c.args.self.now in
    let is : IsCore now = subst IsCore c.self.view_is c.self.invariant in
    subst (λ (o : Operation). IsAllowed now.book now.sessions now.site (seats_in now.layout (record_of o)) o) (sym c.in-Ok.ensures.is_operation)
    (allowed now is c.args.ask c.in-Ok.ensures.accepted)

pub make_room-requires-clause-ended : goal.make_room-requires-clause-ended
make_room-requires-clause-ended c = c.in-Ok.ensures.is_ended

pub returns-in-Err-clause-change : goal.returns-in-Err-clause-change
returns-in-Err-clause-change c =
    let now : Core = c.args.self.now in
    subst (IsChangeFor now (AskCall c.args.ask)) (sym c.refused.ensures)
    (refused_change now (AskCall c.args.ask) c.in-Err.refusal c.in-Err.ensures)

pub returns-in_default-clause-change : goal.returns-in_default-clause-change
returns-in_default-clause-change c =
    let now : Core = c.args.self.now in
    subst (IsChangeFor now (AskCall c.args.ask)) (sym c.refused-in_default.ensures)
    (memory_change now (AskCall c.args.ask))

pub returns-in_default-clause-ready : goal.returns-in_default-clause-ready
returns-in_default-clause-ready c =
    let now : Core = c.args.self.now in
    let new : Core = c.make_room.new.self in
    let call : Call = AskCall c.args.ask in
    let views : core_view now ≡ core_view new = sym (view_along now new c.make_room.ensures.content) in
    let free : reason (core_view new) call ≡ None = ap (λ (v : View). reason v call) (sym views) ∙ c.in-Ok.ensures.accepted in
    subst (IsReadyFor new call) (sym c.refused-in_default.ensures) (ready_memory new call free)

pub returns-clause-ready : goal.returns-clause-ready
returns-clause-ready c =
    let now : Core = c.args.self.now in
    let new : Core = c.make_room.new.self in
    let call : Call = AskCall c.args.ask in
    let views : core_view now ≡ core_view new = sym (view_along now new c.make_room.ensures.content) in
    let free : reason (core_view new) call ≡ None = ap (λ (v : View). reason v call) (sym views) ∙ c.in-Ok.ensures.accepted in
    let p : Prepared = record { reply = c.in-Ok.decision.answer; change = c.in-Ok-make_room.change; operation = Some c.in-Ok.decision.operation; heard = None } in
    subst (IsReadyFor new call) (sym c.doing.ensures)
    (ready_answer new call p free
    (c.in-Ok.ensures.is_answer ∙ ap (λ (v : View). answer v call) views)
    (ap Some (c.in-Ok.ensures.is_operation ∙ ap (λ (v : View). operation_of v c.args.ask) views))
    refl c.in-Ok-make_room.ensures.place)

pub returns-clause-change : goal.returns-clause-change
returns-clause-change c =
    let now : Core = c.args.self.now in
    let is : IsCore now = subst IsCore c.self.view_is c.self.invariant in
    let p : Prepared = record { reply = c.in-Ok.decision.answer; change = c.in-Ok-make_room.change; operation = Some c.in-Ok.decision.operation; heard = None } in
    subst (IsChangeFor now (AskCall c.args.ask)) (sym c.doing.ensures)
    (asked_change now c.args.ask p is.layout c.in-Ok.ensures.accepted c.in-Ok.ensures.is_answer
    (c.in-Ok-make_room.ensures.change ∙ ap (operation_change (core_view now)) c.in-Ok.ensures.is_operation))
