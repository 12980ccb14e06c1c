use Rattle.std.proofs.Common.{sym, subst, ◌∙◌}
use Rattle.admission_model.specs.declared.reply.Refusal.TheVariants.{Memory}
use Rattle.admission_model.specs.declared.reply.Reply.TheVariants.{Refused}
use Rattle.desk_log.specs.Desk.{DeskState, IsOpen, IsServing, account_of}
use Rattle.desk_log.proofs.DeskLemmas.{core_there, has_place, no_memory, desk_unserved, desk_logged, receipt_given}
use Rattle.desk_log.proofs.desk.Desk.answer.Goals as goal

pub step-requires-clause-core : goal.step-requires-clause-core
step-requires-clause-core g c = core_there g.K.Keeper _ c.self.invariant

pub invariant_of-self : goal.invariant_of-self
invariant_of-self g c =
    let k = c.self.inside in
    let d : DeskState g.row.K.Denot = record { core = k.core; keeper = k.keeper; opened = k.opened.value; log = k.log } in
    let serves : IsOpen d = has_place d c.is_full.result (sym c.is_frozen.ensures ∙ c.if-is_frozen.false) c.is_full.ensures c.if-is_full.false in
    desk_unserved g.K.Keeper d c.args.pass c.args.call.now serves c.step.new.core c.step.new.keeper c.step.ensures.honest c.self.invariant c.step.ensures.made_for
    (c.in_default-step.ensures.step (account_of d) c.self.invariant.stands)

pub returns-in_default-step-clause-served : goal.returns-in_default-step-clause-served
returns-in_default-step-clause-served g c =
    let k = c.self.inside in
    let d : DeskState g.row.K.Denot = record { core = k.core; keeper = k.keeper; opened = k.opened.value; log = k.log } in
    let serves : IsOpen d = has_place d c.is_full.result (sym c.is_frozen.ensures ∙ c.if-is_frozen.false) c.is_full.ensures c.if-is_full.false in
    subst (λ (x : DeskState g.row.K.Denot). IsServing g.K.Keeper x (record d { core = c.step.new.core; keeper = c.step.new.keeper }) c.args.pass c.args.call.now (Refused Memory)) c.self.view_is
    (no_memory g.K.Keeper d c.args.pass c.args.call.now serves c.step.new.core c.step.new.keeper c.step.ensures.honest
    (c.step.ensures.idle (account_of d) c.self.invariant.stands)
    (c.in_default-step.ensures.step (account_of d) c.self.invariant.stands))

pub invariant_of-self-2 : goal.invariant_of-self-2
invariant_of-self-2 g c =
    let k = c.self.inside in
    let d : DeskState g.row.K.Denot = record { core = k.core; keeper = k.keeper; opened = k.opened.value; log = k.log } in
    let serves : IsOpen d = has_place d c.is_full.result (sym c.is_frozen.ensures ∙ c.if-is_frozen.false) c.is_full.ensures c.if-is_full.false in
    (desk_logged g.K.Keeper d c.args.pass c.args.call.now c.in-Ok.copy serves c.self.invariant c.step.new.core c.step.new.keeper c.in-Some.served.reply c.in-Some.served.logged c.push.new.self
    c.step.ensures.made_for c.step.ensures.honest (c.step.ensures.idle (account_of d) c.self.invariant.stands) c.in-Ok.ensures.copy c.in-Some.ensures.copied.logged c.push.ensures
    (c.in-Some.ensures.step (account_of d) c.self.invariant.stands)).0

pub returns-clause-served : goal.returns-clause-served
returns-clause-served g c =
    let k = c.self.inside in
    let d : DeskState g.row.K.Denot = record { core = k.core; keeper = k.keeper; opened = k.opened.value; log = k.log } in
    let serves : IsOpen d = has_place d c.is_full.result (sym c.is_frozen.ensures ∙ c.if-is_frozen.false) c.is_full.ensures c.if-is_full.false in
    subst (λ (x : DeskState g.row.K.Denot). IsServing g.K.Keeper x (record { core = c.step.new.core; keeper = c.step.new.keeper; opened = k.opened.value; log = c.push.new.self }) c.args.pass c.args.call.now c.in-Some.served.reply) c.self.view_is
    (desk_logged g.K.Keeper d c.args.pass c.args.call.now c.in-Ok.copy serves c.self.invariant c.step.new.core c.step.new.keeper c.in-Some.served.reply c.in-Some.served.logged c.push.new.self
    c.step.ensures.made_for c.step.ensures.honest (c.step.ensures.idle (account_of d) c.self.invariant.stands) c.in-Ok.ensures.copy c.in-Some.ensures.copied.logged c.push.ensures
    (c.in-Some.ensures.step (account_of d) c.self.invariant.stands)).1

pub returns-clause-receipt : goal.returns-clause-receipt
returns-clause-receipt g c = λ wanted.
    let k = c.self.inside in
    let d : DeskState g.row.K.Denot = record { core = k.core; keeper = k.keeper; opened = k.opened.value; log = k.log } in
    receipt_given g.K.Keeper (account_of d) k.core c.step.new.core k.keeper c.step.new.keeper c.args.call.now c.in-Some.served.reply c.in-Some.served.receipt
    (c.in-Some.ensures.step (account_of d) c.self.invariant.stands) (c.in-Some.ensures.copied.receipt wanted)
