use Rattle.std.proofs.Common.{ap, ◌∙◌}
use Rattle.admission_model.specs.View.{View}
use Rattle.admission_model.specs.Serving.{reason}
use Rattle.admission_core.proofs.CoreLemmas.{shows_account}
use Rattle.admission_core.proofs.site_core.SiteCore.reason.Goals as goal

pub returns : goal.returns
returns c = λ a stands. c.shown_reason.ensures ∙ ap (λ (v : View). reason v c.args.call.now) (shows_account a c.args.self.now stands)
