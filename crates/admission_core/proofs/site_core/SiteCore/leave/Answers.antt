use Rattle.std.proofs.Common.{subst}
use Rattle.admission_core.specs.Core.{IsCore}
use Rattle.admission_core.proofs.PromiseLemmas.{leaves_there}
use Rattle.admission_core.proofs.site_core.SiteCore.leave.Goals as goal

pub returns-clause-there : goal.returns-clause-there
returns-clause-there c =
    λ p there. leaves_there c.args.self.now c.ask.new.self (subst IsCore c.self.view_is c.self.invariant) c.args.r c.args.h p c.ask.result c.ask.ensures there
