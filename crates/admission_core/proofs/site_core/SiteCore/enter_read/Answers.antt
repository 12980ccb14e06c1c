use Rattle.std.proofs.Common.{subst}
use Rattle.admission_core.specs.Core.{IsCore}
use Rattle.admission_core.proofs.PromiseLemmas.{announced_first, announced_named}
use Rattle.admission_core.proofs.site_core.SiteCore.enter_read.Goals as goal

pub returns-clause-announced_first : goal.returns-clause-announced_first
returns-clause-announced_first c =
    announced_first c.args.self.now c.ask.new.self (subst IsCore c.self.view_is c.self.invariant) c.args.r c.args.h c.ask.result c.ask.ensures

pub returns-clause-announced : goal.returns-clause-announced
returns-clause-announced c =
    announced_named c.args.self.now c.ask.new.self (subst IsCore c.self.view_is c.self.invariant) c.args.r c.args.h c.ask.result c.ask.ensures
