-- What a core counts is the number of its account, and of its site in the world.
use Rattle.std.proofs.Common.{◌≡◌, ℕ, ◌<◌, sym, ap, ◌∙◌}
use Rattle.merge_core.specs.declared.cell.Cell.TheVariants.{Fin}
use Rattle.merge_core.specs.Book.{counter_of}
use Rattle.merge_core.specs.Layout.{LayoutState}
use Rattle.merge_core.specs.Sums.{total}
use Rattle.merge_core.proofs.SumLemmas.{total_same}
use Rattle.admission_model.specs.Account.{Account}
use Rattle.admission_model.specs.Knowledge.{known}
use Rattle.admission_core.specs.Core.{Core, Stands}
use Rattle.multi_site_world.specs.World.{World, account_at}
use Rattle.rebuild_laws.specs.Groups.{IsRebuiltWorld}
use Rattle.fencing_laws.specs.Fences.{fence, number_of}
use Rattle.fencing_laws.proofs.FenceLemmas.{counted_all}

pub number_counted : (c : Core) (a : Account) (r : ℕ) → Stands a c → total c.layout.sites (λ s. counter_of c.book r s Fin) ≡ number_of a r
number_counted c a r stands =
    total_same c.layout.sites (λ s. counter_of c.book r s Fin) (λ s. known a r s Fin) (λ s lower. stands.shows.counters r s Fin)
    ∙ ap (λ (l : LayoutState). total l.sites (λ s. known a r s Fin)) stands.shows.layout

pub number_in_world : (c : Core) (w : World) → IsRebuiltWorld w → (i r : ℕ) → i < w.layout.sites → Stands (account_at w i) c → total c.layout.sites (λ s. counter_of c.book r s Fin) ≡ fence w i r
number_in_world c w reached i r below stands =
    number_counted c (account_at w i) r stands ∙ sym (counted_all w reached i r below)
