use Rattle.std.proofs.Common.{◌≡◌, ◌<◌, Some, subst}
use Rattle.admission_model.specs.View.{plan_of}
use Rattle.admission_core.specs.Core.{Core, core_view}
use Rattle.admission_core.proofs.CoreLemmas.{plan_there}
use Rattle.admission_core.proofs.site_core.SiteCore.plan_to_help.Goals as goal

pub own-requires-clause-cell : goal.own-requires-clause-cell
own-requires-clause-cell c =
    let is : plan_of (core_view c.args.self.now) c.args.r ≡ Some c.in-Some.plan = cc in
    plan_there c.args.self.now c.args.r c.in-Some.plan (subst (λ (x : Core). x.site < x.layout.sites) c.self.view_is c.self.invariant.site_there) is
