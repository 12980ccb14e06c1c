use Rattle.std.proofs.Common.{sym, ◌∙◌}
use Rattle.admission_model.specs.declared.ask.Call.TheVariants.{Merge}
use Rattle.admission_core.proofs.ServedLemmas.{served_refused}
use Rattle.admission_core.proofs.site_core.SiteCore.merge.Goals as goal

pub returns-in-Some : goal.returns-in-Some
returns-in-Some c = served_refused c.args.self.now (Merge c.args.delta.now) c.in-Some.refusal (sym c.merge_reason.ensures ∙ c.in-Some.is)

pub merge_accepted-requires : goal.merge_accepted-requires
merge_accepted-requires c = sym c.merge_reason.ensures ∙ c.in_default.is
