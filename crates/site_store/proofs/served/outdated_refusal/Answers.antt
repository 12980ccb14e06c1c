use Rattle.std.proofs.Common.{◌≢◌, inr, sym, subst, ◌∙◌}
use Rattle.site_store.specs.declared.error.ServedError.{ServedError}
use Rattle.site_store.specs.declared.error.ServedError.TheVariants as served
use Rattle.site_store.specs.SiteText.{named}
use Rattle.site_store.specs.Served.{IsContentCause, IsHeldRefusal}
use Rattle.site_store.proofs.MarkedLemmas.{mark_is_none, marked_cause, marked_fault, marked_held}
use Rattle.site_store.proofs.served.outdated_refusal.Goals as goal
use Rattle.site_store.proofs.served.outdated_refusal.Goals.{in-Ok, in-Err}

pub returns-clause-kind : goal.returns-clause-kind
returns-clause-kind c = elim c.match-judge.branch [
  | in-Ok w ↦ inr w.result-is
  | in-Err w ↦ subst IsHeldRefusal (sym (w.result-is ∙ w.marked_error.ensures)) (marked_held w.in-Err.error)
]

pub returns-clause-cause : goal.returns-clause-cause
returns-clause-cause c grow = elim c.match-judge.branch [
  | in-Ok w ↦ subst (λ (e : ServedError). IsContentCause grow c.args.layout.now c.args.site (named c.args.group) c.args.content.now e × (e ≢ served.StoreFault)) (sym w.result-is)
      ((w.in-Ok.ensures.0.content, w.in-Ok.ensures.0.its_site), mark_is_none)
  | in-Err w ↦ subst (λ (e : ServedError). IsContentCause grow c.args.layout.now c.args.site (named c.args.group) c.args.content.now e × (e ≢ served.StoreFault)) (sym (w.result-is ∙ w.marked_error.ensures))
      (marked_cause grow c.args.layout.now c.args.site (named c.args.group) c.args.content.now w.in-Err.error w.in-Err.ensures.0, λ is. w.in-Err.ensures.1 (marked_fault w.in-Err.error is))
]
