use Rattle.std.proofs.Common.{ap, ◌∙◌}
use Rattle.admission_model.specs.View.{View, plan_of}
use Rattle.admission_core.proofs.CoreLemmas.{shows_account}
use Rattle.admission_core.proofs.site_core.SiteCore.plan.Goals as goal

pub returns : goal.returns
returns c = λ a stands. c.plan_for.ensures ∙ ap (λ (v : View). plan_of v c.args.r) (shows_account a c.args.self.now stands)
