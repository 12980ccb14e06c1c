-- A site that knows all sites refuses no message.
use Rattle.std.proofs.Common.{◌≡◌, ℕ, ◌<◌, List, length, get_or, Some, None, sym, ap, subst, ◌∙◌, arith}
use Rattle.std.specs.Prelude.{slice_get}
use Rattle.merge_core.specs.Delta.{DeltaState}
use Rattle.merge_core.specs.Layout.{LayoutState}
use Rattle.admission_model.specs.declared.ask.Call.TheVariants.{Merge}
use Rattle.admission_model.specs.View.{View}
use Rattle.admission_model.specs.Serving.{reason}
use Rattle.admission_core.specs.Core.{Core as SiteState, Stands, core_view}
use Rattle.admission_core.proofs.CoreLemmas.{shows_account}
use Rattle.multi_site_world.specs.World.{account_at}
use Rattle.multi_site_world.specs.Worlds.{WorldState, IsWorldState}
use Rattle.multi_site_world.proofs.WorldLemmas.{rows_accepted, all_narrow}
use Rattle.multi_site_world.proofs.EventLemmas.{sound_reached, message_there}

pub accepted_at : (w : WorldState) (i k : ℕ) (core none : SiteState) (message : DeltaState) → IsWorldState w → i < length w.cores → core ≡ get_or w.cores i none
    → core.layout.sites ≡ w.layout.sites → slice_get w.sent k ≡ Some message → reason (core_view core) (Merge message) ≡ None
accepted_at w i k core none message is below read all there =
    let m = is.model in
    let sound = sound_reached m is.stands.reached in
    let same : w.layout.sites ≡ m.layout.sites = ap (λ (l : LayoutState). l.sites) is.stands.layout in
    let inside : i < m.layout.sites = omega (arith, below, is.number, same) in
    let here : Stands (account_at m i) core =
    subst (Stands (account_at m i)) (sym read) (is.stands.cores.each i none (omega (arith, below, is.stands.cores.number))) in
    let knows : (account_at m i).sites ≡ m.layout.sites = sym (ap (λ (l : LayoutState). l.sites) here.shows.layout) ∙ (all ∙ same) in
    let found : slice_get m.sent k ≡ Some message = subst (λ (ds : List DeltaState). slice_get ds k ≡ Some message) is.stands.sent there in
    let rows = (message_there m k message sound found).rows in
    ap (λ (v : View). reason v (Merge message)) (shows_account (account_at m i) core here)
    ∙ rows_accepted m i message sound inside rows (all_narrow m i message.rows knows rows)
