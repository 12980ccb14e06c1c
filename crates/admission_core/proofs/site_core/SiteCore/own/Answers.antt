use Rattle.std.proofs.Common.{arith}
use Rattle.admission_core.specs.Core.{Core}
use Rattle.admission_core.proofs.LimitLemmas.{own_few}
use Rattle.admission_core.proofs.site_core.SiteCore.own.Goals as goal

pub returns-clause-few : goal.returns-clause-few
returns-clause-few c =
    let k = c.self.inside in
    let now : Core = record { layout = k.layout; site = k.site; book = k.book; sessions = k.sessions.sessions; room = k.sessions.room } in
    omega (arith, c.counter.ensures, own_few now c.self.invariant c.args.r c.args.cell)
