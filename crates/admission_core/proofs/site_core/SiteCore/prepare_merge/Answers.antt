-- What a delta prepares: a refusal, want of memory, or the number of counters that rise, with those that are kept.
use Rattle.std.proofs.Common.{◌≡◌, None, sym, ap, subst, ◌∙◌}
use Rattle.admission_model.specs.declared.ask.Call.TheVariants.{Merge}
use Rattle.admission_model.specs.declared.reply.Reply.TheVariants.{Merged}
use Rattle.admission_model.specs.Serving.{reason}
use Rattle.admission_core.specs.Core.{Core, core_view}
use Rattle.admission_core.specs.Kept.{ChangeState}
use Rattle.admission_core.specs.Prepared.{Prepared, IsReadyFor, IsChangeFor}
use Rattle.admission_core.proofs.ReadyLemmas.{ready_memory}
use Rattle.admission_core.proofs.ChangeLemmas.{refused_change, memory_change, merged_change}
use Rattle.admission_core.proofs.site_core.SiteCore.prepare_merge.Goals as goal

pub returns-in-Some-clause-change : goal.returns-in-Some-clause-change
returns-in-Some-clause-change c =
    let now : Core = c.args.self.now in
    subst (IsChangeFor now (Merge c.args.delta.now)) (sym c.refused.ensures)
    (refused_change now (Merge c.args.delta.now) c.in-Some.refusal (sym c.merge_reason.ensures ∙ c.in-Some.is))

pub returns-in_default-risen_cells-clause-ready : goal.returns-in_default-risen_cells-clause-ready
returns-in_default-risen_cells-clause-ready c =
    let now : Core = c.args.self.now in
    let free : reason (core_view now) (Merge c.args.delta.now) ≡ None = sym c.merge_reason.ensures ∙ c.in_default.is in
    subst (IsReadyFor now (Merge c.args.delta.now)) (sym c.refused-in_default-risen_cells.ensures) (ready_memory now (Merge c.args.delta.now) free)

pub returns-in_default-risen_cells-clause-change : goal.returns-in_default-risen_cells-clause-change
returns-in_default-risen_cells-clause-change c =
    let now : Core = c.args.self.now in
    subst (IsChangeFor now (Merge c.args.delta.now)) (sym c.refused-in_default-risen_cells.ensures)
    (memory_change now (Merge c.args.delta.now))

pub returns-clause-change : goal.returns-clause-change
returns-clause-change c =
    let now : Core = c.args.self.now in
    let free : reason (core_view now) (Merge c.args.delta.now) ≡ None = sym c.merge_reason.ensures ∙ c.in_default.is in
    merged_change now c.args.delta.now c.hearing.result free
    (ap (λ (p : Prepared). p.reply) c.hearing.ensures ∙ ap Merged c.raised_by.ensures)
    (ap (λ (p : Prepared). p.change.cells) c.hearing.ensures ∙ (ap (λ (x : ChangeState). x.cells) c.new.ensures ∙ c.in-Ok.ensures))
    (ap (λ (p : Prepared). p.change.session) c.hearing.ensures ∙ ap (λ (x : ChangeState). x.session) c.new.ensures)
