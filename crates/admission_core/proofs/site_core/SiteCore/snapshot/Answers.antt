use Rattle.std.proofs.Common.{◌≡◌, subst, sym}
use Rattle.merge_core.specs.Delta.{DeltaState}
use Rattle.admission_model.specs.Account.{Account}
use Rattle.admission_model.specs.Merging.{snapshot_of}
use Rattle.admission_model.specs.View.{view_of}
use Rattle.admission_core.specs.Core.{Core, Stands}
use Rattle.admission_core.proofs.BegunLemmas.{tells}
use Rattle.admission_core.proofs.CoreLemmas.{both_ok}
use Rattle.admission_core.proofs.site_core.SiteCore.snapshot.Goals as goal

pub returns : goal.returns
returns c =
    let k = c.self.inside in
    let old : Core = record { layout = k.layout; site = k.site; book = k.book; sessions = k.sessions.sessions; room = k.sessions.room } in
    both_ok {R = λ (d : DeltaState). (a : Account) → Stands a c.args.self.now → d ≡ snapshot_of (view_of a)} (λ (d : DeltaState) label rows a stands. tells a old (subst (Stands a) (sym c.self.view_is) stands) d label (rows)) c.snapshot.result c.snapshot.ensures.label c.snapshot.ensures.rows
