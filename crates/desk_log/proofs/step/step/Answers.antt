use Rattle.std.proofs.Common.{◌≡◌, true, false, inl, [], None, sym, ap, subst, ◌∙◌}
use Rattle.admission_core.specs.Core.{is_memory}
use Rattle.std.specs.Prelude.{Err}
use Rattle.admission_core.specs.Kept.{ChangeState}
use Rattle.desk_log.specs.Desk.{HasKept, KeepsChange}
use Rattle.desk_log.proofs.StepLemmas.{unserved, not_memory, may_be_told, left_alone, carried_out, not_kept}
use Rattle.desk_log.proofs.step.step.Goals as goal

pub returns-in_default-clause-step : goal.returns-in_default-clause-step
returns-in_default-clause-step g c =
    let old = c.args.core.now in
    let p = c.prepare-prepared.result in
    let e = c.prepare-prepared.ensures in
    unserved old c.prepare-prepared.new.self c.args.call.now p c.requires.core e.content e.ready e.change g.K.Keeper c.args.keeper.now c.args.keeper.now
    (λ x v told is. let ok = c.in_default.ensures.refused x (c.reply.ensures ∙ is) in cc)
    (λ d kept. kept) c.requires.no_fault

pub returns-in_default-copied_if-clause-step : goal.returns-in_default-copied_if-clause-step
returns-in_default-copied_if-clause-step g c =
    let old = c.args.core.now in
    let p = c.prepare-prepared.result in
    let e = c.prepare-prepared.ensures in
    unserved old c.prepare-prepared.new.self c.args.call.now p c.requires.core e.content e.ready e.change g.K.Keeper c.args.keeper.now c.args.keeper.now
    (λ x v told is. let ok = c.in_default-copied_if.ensures.refused x (c.reply-2.ensures ∙ is) in cc)
    (λ d kept. kept) c.requires.no_fault

pub returns-then-is_memory-clause-step : goal.returns-then-is_memory-clause-step
returns-then-is_memory-clause-step g c =
    let old = c.args.core.now in
    let p = c.prepare-prepared.result in
    let e = c.prepare-prepared.ensures in
    let memory : is_memory p.reply ≡ true = sym (ap is_memory (c.in-Ok.ensures.copy ∙ c.reply.ensures)) ∙ (sym c.is_memory.ensures ∙ c.if-is_memory.true) in
    unserved old c.prepare-prepared.new.self c.args.call.now p c.requires.core e.content e.ready e.change g.K.Keeper c.args.keeper.now c.args.keeper.now
    (not_memory old c.prepare-prepared.new.self c.args.call.now p c.requires.core e.content e.ready e.change memory)
    (λ d kept. kept) c.requires.no_fault

pub commit_if_changed-requires-clause-change : goal.commit_if_changed-requires-clause-change
commit_if_changed-requires-clause-change g c =
    let old = c.args.core.now in
    let p = c.prepare-prepared.result in
    let e = c.prepare-prepared.ensures in
    let there : is_memory p.reply ≡ false = sym (ap is_memory (c.in-Ok.ensures.copy ∙ c.reply.ensures)) ∙ (sym c.is_memory.ensures ∙ c.if-is_memory.false) in
    rw (c.requires.made_for.for_layout, c.requires.made_for.for_site, c.change.ensures)
    (may_be_told old c.prepare-prepared.new.self c.args.call.now p c.requires.core e.content e.ready e.change there e.rising)

pub returns-in-Err-clause-step : goal.returns-in-Err-clause-step
returns-in-Err-clause-step g c =
    let old = c.args.core.now in
    let p = c.prepare-prepared.result in
    let e = c.prepare-prepared.ensures in
    let there : is_memory p.reply ≡ false = sym (ap is_memory (c.in-Ok.ensures.copy ∙ c.reply.ensures)) ∙ (sym c.is_memory.ensures ∙ c.if-is_memory.false) in
    let kept : KeepsChange g.K.Keeper c.args.keeper.now c.commit_if_changed.new.keeper p.change (Err c.in-Err.error) =
    subst (λ (x : ChangeState). KeepsChange g.K.Keeper c.args.keeper.now c.commit_if_changed.new.keeper x (Err c.in-Err.error)) c.change.ensures c.in-Err.ensures.kept in
    not_kept old c.prepare-prepared.new.self c.args.call.now p c.requires.core e.content e.ready e.change g.K.Keeper c.args.keeper.now c.commit_if_changed.new.keeper c.args.receipt there
    c.in-Err.error kept c.not_kept.result c.not_kept.ensures.memory c.not_kept.ensures.fault c.not_kept.ensures.told

pub returns-clause-step : goal.returns-clause-step
returns-clause-step g c =
    let old = c.args.core.now in
    let p = c.prepare-prepared.result in
    let e = c.prepare-prepared.ensures in
    let there : is_memory p.reply ≡ false = sym (ap is_memory (c.in-Ok.ensures.copy ∙ c.reply.ensures)) ∙ (sym c.is_memory.ensures ∙ c.if-is_memory.false) in
    let kept : HasKept g.K.Keeper c.args.keeper.now c.commit_if_changed.new.keeper p.change =
    subst (λ (x : ChangeState). HasKept g.K.Keeper c.args.keeper.now c.commit_if_changed.new.keeper x) c.change.ensures c.in_default-commit_if_changed.ensures.kept in
    λ a stands. inl (carried_out old c.prepare-prepared.new.self c.args.call.now p c.requires.core e.content e.ready e.change g.K.Keeper c.args.keeper.now c.commit_if_changed.new.keeper
    c.apply-reply.new.self c.apply-reply.result there kept c.apply-reply.ensures.reply c.apply-reply.ensures.account c.apply-reply.ensures.unchanged a stands)

pub returns-in-Err-clause-idle : goal.returns-in-Err-clause-idle
returns-in-Err-clause-idle g c =
    let old = c.args.core.now in
    let p = c.prepare-prepared.result in
    let e = c.prepare-prepared.ensures in
    let there : is_memory p.reply ≡ false = sym (ap is_memory (c.in-Ok.ensures.copy ∙ c.reply.ensures)) ∙ (sym c.is_memory.ensures ∙ c.if-is_memory.false) in
    left_alone old c.prepare-prepared.new.self c.args.call.now p c.requires.core e.content e.ready e.change c.args.keeper.now c.commit_if_changed.new.keeper there
    (subst (λ (x : ChangeState). x.cells ≡ [] → x.session ≡ None → c.commit_if_changed.new.keeper ≡ c.args.keeper.now) c.change.ensures c.commit_if_changed.ensures.idle)

pub returns-clause-idle : goal.returns-clause-idle
returns-clause-idle g c =
    let old = c.args.core.now in
    let p = c.prepare-prepared.result in
    let e = c.prepare-prepared.ensures in
    let there : is_memory p.reply ≡ false = sym (ap is_memory (c.in-Ok.ensures.copy ∙ c.reply.ensures)) ∙ (sym c.is_memory.ensures ∙ c.if-is_memory.false) in
    left_alone old c.prepare-prepared.new.self c.args.call.now p c.requires.core e.content e.ready e.change c.args.keeper.now c.commit_if_changed.new.keeper there
    (subst (λ (x : ChangeState). x.cells ≡ [] → x.session ≡ None → c.commit_if_changed.new.keeper ≡ c.args.keeper.now) c.change.ensures c.commit_if_changed.ensures.idle)
