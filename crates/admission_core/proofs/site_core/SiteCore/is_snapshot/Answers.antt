use Rattle.std.proofs.Common.{subst, sym}
use Rattle.admission_core.specs.Core.{Core, Stands}
use Rattle.admission_core.proofs.BegunLemmas.{tells_this}
use Rattle.admission_core.proofs.site_core.SiteCore.is_snapshot.Goals as goal

pub returns : goal.returns
returns c =
    let k = c.self.inside in
    let old : Core = record { layout = k.layout; site = k.site; book = k.book; sessions = k.sessions.sessions; room = k.sessions.room } in
    λ a stands. tells_this a old (subst (Stands a) (sym c.self.view_is) stands) c.args.delta.now c.is_snapshot.result c.is_snapshot.ensures
