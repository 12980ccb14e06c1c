-- Fencing numbers (the sequencers of Burrows, "The Chubby lock service for loosely-coupled distributed systems", 2006):
-- a session's number is how many finished writers of the record its site knows of.
use Rattle.std.specs.Prelude.{◌≡◌, ◌≢◌, ℕ, ◌≤◌, List, [], ◌∷◌, slice_get, Some}
use Rattle.std.specs.List.{AllByRecursion}
use Rattle.merge_core.specs.declared.cell.Cell.TheVariants.{Fin}
use Rattle.merge_core.specs.declared.delta.Row.{Row}
use Rattle.merge_core.specs.Delta.{DeltaState}
use Rattle.merge_core.specs.Sums.{total}
use Rattle.session_list.specs.declared.session.Phase.TheVariants.{Writer}
use Rattle.admission_model.specs.declared.ask.Ask.TheVariants.{Leave}
use Rattle.admission_model.specs.Account.{Account, phase_of}
use Rattle.admission_model.specs.Knowledge.{known}
use Rattle.multi_site_world.specs.declared.event.Event.{Event}
use Rattle.multi_site_world.specs.declared.event.Event.TheVariants.{Call, Send, Take, Thin, Restart, Grow}
use Rattle.multi_site_world.specs.World.{World, account_at, happens}

-- the number of whoever is inside record r at site i: the finished writers, of all sites, that site i knows of (this
-- project's own choice of what to count)
abbrev pub fence : World → ℕ → ℕ → ℕ
fence w i r = total w.layout.sites (λ s. known (account_at w i) r s Fin)

-- the number that the site itself counts, over the sites that it knows
abbrev pub number_of : Account → ℕ → ℕ
number_of a r = total a.sites (λ s. known a r s Fin)

-- a site knows of each finished writer that the rows show
abbrev pub KnowsFinished : Account → List Row → Type 0
KnowsFinished a rows = AllByRecursion (λ p. p.fin ≤ known a p.r p.s Fin) rows

-- Whether a message that is taken brings seats only with the finished writers that its sender knew of (this project's
-- own): a whole one does; a thin one does against a message whose finished writers the taker knows of.
abbrev pub IsWellTold : World → Event → Type 0
IsWellTold w (Call i ask) = Unit {0}
IsWellTold w (Send i) = Unit {0}
IsWellTold w (Take i k) = Unit {0}
IsWellTold w (Thin i k l) = (earlier : DeltaState) → slice_get w.sent l ≡ Some earlier → KnowsFinished (account_at w i) earlier.rows
IsWellTold w (Restart i) = Unit {0}
IsWellTold w (Grow i) = Unit {0}

-- each event of a list is well told, in the world that the earlier ones lead to
abbrev pub AreWellTold : List Event → World → Type 0
AreWellTold [] w = Unit {0}
AreWellTold (event ∷ events) w = IsWellTold w event × AreWellTold events (happens w event)

-- no event of a list asks site i that holder h leaves record r
abbrev pub NeverLeaves : ℕ → ℕ → ℕ → List Event → Type 0
NeverLeaves i r h [] = Unit {0}
NeverLeaves i r h (event ∷ events) = (event ≢ Call i (Leave r h)) × NeverLeaves i r h events

-- the session of holder k at site j is, after the events, still that of the writer h at site i, which never left
pub record IsSameStay (r i h j k : ℕ) (events : List Event) (v : World) : Type 0 where
  pub same_site : i ≡ j
  pub same_holder : h ≡ k
  pub writes : phase_of (account_at v j) r k ≡ Some Writer
  pub never_leaves : NeverLeaves i r h events
