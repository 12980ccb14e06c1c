use Rattle.std.proofs.Common.{rules, ◌≡◌, ◌++◌, inl, inr, Bool, false, [], None, Ok, Err, refl, sym, ap, subst, subst₂, ◌∙◌}
use Rattle.std.proofs.lemmas.Bool.{cases_Bool}
use Rattle.std.specs.Prelude.{string_bytes}
use Rattle.admission_model.specs.declared.reply.Reply.{Reply}
use Rattle.admission_model.specs.View.{view_of}
use Rattle.admission_model.specs.Serving.{reply_of}
use Rattle.admission_core.specs.Core.{is_memory}
use Rattle.admission_core.specs.Kept.{ChangeState}
use Rattle.desk_log.specs.Desk.{HasKept, KeepsChange}
use Rattle.desk_log.proofs.StepLemmas.{may_be_told, left_alone, carried_out, store_memory, store_fault}
use Rattle.durable_keeper.specs.declared.error.KeeperError.{KeeperError}
use Rattle.live_site.specs.declared.live_site.Outcome.{Outcome}
use Rattle.live_site.specs.Live.{Enters, IsLiveStep, is_outdated, line_of}
use Rattle.live_site.specs.Steps.{KeepsCall}
use Rattle.live_site.proofs.CallLemmas.{core_along, too_many, log_refused, change_lost, mark_lost, call_done}
use Rattle.live_site.proofs.MarkLemmas.{has_kept, has_marked}
use Rattle.live_site.proofs.step.step.Goals as goal

pub overfull_at-requires-clause-core : goal.overfull_at-requires-clause-core
overfull_at-requires-clause-core g c = core_along c.args.core.now c.prepare-prepared.new.self c.prepare-prepared.ensures.content c.requires.core

pub returns-in-Some-clause-step : goal.returns-in-Some-clause-step
returns-in-Some-clause-step g c = λ a stands.
    too_many g.K.Keeper g.K.LiveKeeper.is_outdated g.L.CallLog a c.args.core.now stands c.args.call.now c.prepare-prepared.new.self c.args.keeper.now c.args.log.now (string_bytes c.args.text.now) c.in-Some.r c.prepare-prepared.ensures.content c.in-Some.ensures

pub returns-in-Err-clause-step : goal.returns-in-Err-clause-step
returns-in-Err-clause-step g c = λ a stands.
    let e = c.prepare-prepared.ensures in
    subst (λ (o : Outcome). IsLiveStep g.K.Keeper g.K.LiveKeeper.is_outdated g.L.CallLog a c.args.core.now c.prepare-prepared.new.self c.args.keeper.now c.args.keeper.now c.args.log.now c.enter.new.self c.args.call.now
    (string_bytes c.args.text.now) (string_bytes c.push_line.new.text) o) (sym c.unlogged.ensures)
    (log_refused g.K.Keeper g.K.LiveKeeper.is_outdated g.L.CallLog a c.args.core.now stands c.args.call.now c.prepare-prepared.new.self c.args.keeper.now c.args.log.now c.enter.new.self
    (string_bytes c.args.text.now) (string_bytes c.push_line.new.text) c.in-Err.fault e.content c.requires.no_fault
    (λ first before took is. c.in-Err.ensures.memory first before took (ap Err is)) (λ is. c.in-Err.ensures.failed (ap Err is)))

pub keep_call-requires-clause-change : goal.keep_call-requires-clause-change
keep_call-requires-clause-change g c =
    let old = c.args.core.now in
    let p = c.prepare-prepared.result in
    let e = c.prepare-prepared.ensures in
    let there : is_memory p.reply ≡ false = sym (ap is_memory c.reply.ensures) ∙ (sym c.is_memory.ensures ∙ c.if-is_memory.false) in
    rw (c.requires.made_for.for_layout, c.requires.made_for.for_site, c.change.ensures)
    (may_be_told old c.prepare-prepared.new.self c.args.call.now p c.requires.core e.content e.ready e.change there e.rising)

pub returns-in-Err-keep_call-clause-step : goal.returns-in-Err-keep_call-clause-step
returns-in-Err-keep_call-clause-step g c = λ a stands.
    let old = c.args.core.now in
    let mid = c.prepare-prepared.new.self in
    let p = c.prepare-prepared.result in
    let e = c.prepare-prepared.ensures in
    let k = c.args.keeper.now in
    let l = c.keep_call.new.keeper in
    let m = g.K.LiveKeeper.is_outdated in
    let error = c.in-Err-keep_call.error in
    let there : is_memory p.reply ≡ false = sym (ap is_memory c.reply.ensures) ∙ (sym c.is_memory.ensures ∙ c.if-is_memory.false) in
    let model = e.reply there a stands in
    let kept : KeepsCall g.K.Keeper m (is_outdated p.reply) k l p.change (Err error) =
    subst₂ (λ (r : Reply) (x : ChangeState). KeepsCall g.K.Keeper m (is_outdated r) k l x (Err error)) c.reply-5.ensures c.change.ensures c.in-Err-keep_call.ensures.kept in
    let logged : Enters g.L.CallLog c.args.log.now c.enter.new.self c.args.call.now (reply_of (view_of a) c.args.call.now) =
    subst (λ (r : Reply). Enters g.L.CallLog c.args.log.now c.enter.new.self c.args.call.now r) (c.reply-4.ensures ∙ model)
    (λ first before took. c.in_default-enter.ensures.entered first before took) in
    elim (cases_Bool (is_outdated p.reply)) [
      | inl outdated ↦
          mark_lost g.K.Keeper m g.L.CallLog a old stands c.args.call.now mid k l c.args.log.now c.enter.new.self c.not_kept.new.log
          (string_bytes c.args.text.now) (string_bytes c.push_line.new.text) error c.not_kept.result e.content c.in_default.ensures (sym (ap is_outdated model) ∙ outdated) logged
          (subst (λ (b : Bool). KeepsCall g.K.Keeper m b k l p.change (Err error)) outdated kept) c.not_kept.ensures
      | inr current ↦
          let change : KeepsChange g.K.Keeper k l p.change (Err error) = subst (λ (b : Bool). KeepsCall g.K.Keeper m b k l p.change (Err error)) current kept in
          change_lost g.K.Keeper m g.L.CallLog a old stands c.args.call.now mid k l c.args.log.now c.enter.new.self c.not_kept.new.log
          (string_bytes c.args.text.now) (string_bytes c.push_line.new.text) error c.not_kept.result e.content c.in_default.ensures logged
          (λ is. store_memory old mid c.args.call.now p c.requires.core e.content e.ready e.change g.K.Keeper k l there
          (subst (λ (x : KeeperError). KeepsChange g.K.Keeper k l p.change (Err x)) is change) a stands)
          (λ is. store_fault old mid c.args.call.now p c.requires.core e.content e.ready e.change g.K.Keeper k l there
          (subst (λ (x : KeeperError). KeepsChange g.K.Keeper k l p.change (Err x)) is change) a stands)
          c.not_kept.ensures
    ]

pub returns-clause-step : goal.returns-clause-step
returns-clause-step g c = λ a stands.
    let old = c.args.core.now in
    let mid = c.prepare-prepared.new.self in
    let p = c.prepare-prepared.result in
    let e = c.prepare-prepared.ensures in
    let k = c.args.keeper.now in
    let l = c.keep_call.new.keeper in
    let m = g.K.LiveKeeper.is_outdated in
    let there : is_memory p.reply ≡ false = sym (ap is_memory c.reply.ensures) ∙ (sym c.is_memory.ensures ∙ c.if-is_memory.false) in
    let model = e.reply there a stands in
    let call : KeepsCall g.K.Keeper m (is_outdated p.reply) k l p.change (Ok tt) =
    subst₂ (λ (r : Reply) (x : ChangeState). KeepsCall g.K.Keeper m (is_outdated r) k l x (Ok tt)) c.reply-5.ensures c.change.ensures c.in_default-keep_call.ensures.kept in
    let kept : HasKept g.K.Keeper k l p.change = has_kept old c.args.call.now p e.change there a stands model g.K.Keeper m k l (is_outdated p.reply) refl call in
    let marked = has_marked old c.args.call.now p e.change there a stands model g.K.Keeper m k l (is_outdated p.reply) refl call in
    let logged : Enters g.L.CallLog c.args.log.now c.enter.new.self c.args.call.now p.reply =
    subst (λ (r : Reply). Enters g.L.CallLog c.args.log.now c.enter.new.self c.args.call.now r) c.reply-4.ensures
    (λ first before took. c.in_default-enter.ensures.entered first before took) in
    let written : string_bytes c.push_line.new.text ≡ string_bytes c.args.text.now ++ line_of c.reply-3.result.now = search rules in
    call_done g.K.Keeper m g.L.CallLog a old stands c.args.call.now mid c.apply-reply.new.self k l c.args.log.now c.enter.new.self
    (string_bytes c.args.text.now) (string_bytes c.push_line.new.text) p.reply e.content c.in_default.ensures
    (carried_out old mid c.args.call.now p c.requires.core e.content e.ready e.change g.K.Keeper k l
    c.apply-reply.new.self p.reply there kept refl c.apply-reply.ensures.account c.apply-reply.ensures.unchanged a stands)
    (written ∙ ap (λ (r : Reply). string_bytes c.args.text.now ++ line_of r) c.reply-3.ensures) logged marked

pub returns-in-Err-keep_call-clause-idle : goal.returns-in-Err-keep_call-clause-idle
returns-in-Err-keep_call-clause-idle g c = λ a stands current empty.
    let old = c.args.core.now in
    let p = c.prepare-prepared.result in
    let e = c.prepare-prepared.ensures in
    let k = c.args.keeper.now in
    let l = c.keep_call.new.keeper in
    let there : is_memory p.reply ≡ false = sym (ap is_memory c.reply.ensures) ∙ (sym c.is_memory.ensures ∙ c.if-is_memory.false) in
    let idle : is_outdated p.reply ≡ false → p.change.cells ≡ [] → p.change.session ≡ None → l ≡ k =
    subst₂ (λ (r : Reply) (x : ChangeState). is_outdated r ≡ false → x.cells ≡ [] → x.session ≡ None → l ≡ k) c.reply-5.ensures c.change.ensures c.keep_call.ensures.idle in
    left_alone old c.prepare-prepared.new.self c.args.call.now p c.requires.core e.content e.ready e.change k l there
    (idle (ap is_outdated (e.reply there a stands) ∙ current)) a stands empty

pub returns-clause-idle : goal.returns-clause-idle
returns-clause-idle g c = λ a stands current empty.
    let old = c.args.core.now in
    let p = c.prepare-prepared.result in
    let e = c.prepare-prepared.ensures in
    let k = c.args.keeper.now in
    let l = c.keep_call.new.keeper in
    let there : is_memory p.reply ≡ false = sym (ap is_memory c.reply.ensures) ∙ (sym c.is_memory.ensures ∙ c.if-is_memory.false) in
    let idle : is_outdated p.reply ≡ false → p.change.cells ≡ [] → p.change.session ≡ None → l ≡ k =
    subst₂ (λ (r : Reply) (x : ChangeState). is_outdated r ≡ false → x.cells ≡ [] → x.session ≡ None → l ≡ k) c.reply-5.ensures c.change.ensures c.keep_call.ensures.idle in
    left_alone old c.prepare-prepared.new.self c.args.call.now p c.requires.core e.content e.ready e.change k l there
    (idle (ap is_outdated (e.reply there a stands) ∙ current)) a stands empty

pub returns-in-Err-clause-idle : goal.returns-in-Err-clause-idle
returns-in-Err-clause-idle g c = search rules

pub keep_call-requires-clause-no_fault : goal.keep_call-requires-clause-no_fault
keep_call-requires-clause-no_fault g c = search rules
