use Rattle.std.proofs.Common.{◌≢◌, sym, subst, ◌∙◌, false}
use Rattle.site_store.specs.declared.error.StoreOpenError.TheVariants as opening
use Rattle.site_store.specs.declared.error.ServedError.{ServedError}
use Rattle.site_store.specs.declared.error.ServedError.TheVariants as served
use Rattle.site_store.specs.SiteText.{named}
use Rattle.site_store.specs.Served.{IsContentCause}
use Rattle.site_store.proofs.ServedLemmas.{content_cause, earlier_cause, fault_below, layout_is_none}
use Rattle.site_store.proofs.served.earlier_refusal.Goals as goal
use Rattle.site_store.proofs.served.earlier_refusal.Goals.{in-Ok, in-Err}

pub returns-clause-kind : goal.returns-clause-kind
returns-clause-kind c = elim c.match-judge.branch [
  | in-Ok w ↦ (opening.WrongLayout, w.result-is)
  | in-Err w ↦ (w.in-Err.error, w.result-is ∙ w.from.ensures)
]

pub returns-clause-cause : goal.returns-clause-cause
returns-clause-cause c earlier = elim c.match-judge.branch [
  | in-Ok w ↦ subst (λ (e : ServedError). IsContentCause false c.args.layout.now c.args.site (named c.args.group) c.args.content.now e × (e ≢ served.StoreFault)) (sym w.result-is)
      (earlier_cause c.args.layout.now c.args.site (named c.args.group) c.args.content.now w.in-Ok.ensures.0 earlier, layout_is_none)
  | in-Err w ↦ subst (λ (e : ServedError). IsContentCause false c.args.layout.now c.args.site (named c.args.group) c.args.content.now e × (e ≢ served.StoreFault)) (sym (w.result-is ∙ w.from.ensures))
      (content_cause false c.args.layout.now c.args.site (named c.args.group) c.args.content.now w.in-Err.error w.in-Err.ensures.0, λ is. w.in-Err.ensures.1 (fault_below w.in-Err.error is))
]
