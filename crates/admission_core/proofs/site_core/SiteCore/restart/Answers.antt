-- A restart leaves a core that stands for the restarted account.
use Rattle.std.proofs.Common.{refl, subst, sym}
use Rattle.admission_model.specs.Knowledge.{restarted}
use Rattle.admission_core.specs.Core.{Core, Stands}
use Rattle.admission_core.proofs.BegunLemmas.{stands_restarted}
use Rattle.admission_core.proofs.CoreLemmas.{is_core}
use Rattle.admission_core.proofs.site_core.SiteCore.restart.Goals as goal

pub invariant_of-self : goal.invariant_of-self
invariant_of-self c =
    let k = c.self.inside in
    let old : Core = record { layout = k.layout; site = k.site; book = k.book; sessions = k.sessions.sessions; room = k.sessions.room } in
    let is = c.self.invariant in
    is_core _ is.layout (restarted is.account) (stands_restarted is.account old _ is.stands refl refl refl c.keep.ensures.book c.keep.ensures.counters)

pub returns : goal.returns
returns c = λ a stands.
    let k = c.self.inside in
    let old : Core = record { layout = k.layout; site = k.site; book = k.book; sessions = k.sessions.sessions; room = k.sessions.room } in
    stands_restarted a old _ (subst (Stands a) (sym c.self.view_is) stands) refl refl refl c.keep.ensures.book c.keep.ensures.counters
