-- What the whole design is for, said of the running sites themselves: of their books and sessions, whatever
-- account each stands for.
use Rattle.std.specs.Prelude.{◌≡◌, ◌≢◌, ℕ, ◌+◌, ◌-◌, ◌<◌, ◌≤◌, length, slice_get, List, [], ◌∷◌, Option, Some}
use Rattle.merge_core.specs.declared.cell.Cell.{Cell}
use Rattle.merge_core.specs.declared.cell.Cell.TheVariants.{Out, Ann, Fin}
use Rattle.merge_core.specs.Layout.{LayoutState, Shape, shape_of}
use Rattle.merge_core.specs.Book.{BookState, IsBook, counter_of}
use Rattle.merge_core.specs.Changes.{IsWidened}
use Rattle.merge_core.specs.Sums.{total, total_others}
use Rattle.session_list.specs.Sessions.{phase_in}
use Rattle.session_list.specs.declared.session.Phase.TheVariants.{Writer}
use Rattle.admission_model.specs.declared.ask.Ask.TheVariants.{Read}
use Rattle.admission_model.specs.declared.reply.Refusal.TheVariants.{OtherLayout, BadRow, OwnRowAhead, WriterAnnounced}
use Rattle.admission_model.specs.declared.reply.Reply.TheVariants.{Admitted, Refused}
use Rattle.admission_model.specs.Account.{seats_in, session_total, weight}
use Rattle.admission_model.specs.Laws.{SourcesAgree, IsFirstUnfinished, MayAsk}
use Rattle.admission_model.specs.View.{problem_in, rights_of, gained, spent}
use Rattle.admission_core.specs.Core.{Core as SiteState, core_view}
use Rattle.multi_site_world.specs.declared.event.Event.{Event}
use Rattle.multi_site_world.specs.declared.event.Event.TheVariants.{Call}
use Rattle.multi_site_world.specs.declared.event.WorldReply.{WorldReply}
use Rattle.multi_site_world.specs.declared.event.WorldReply.TheVariants.{Core}
use Rattle.multi_site_world.specs.World.{World, account_at, place_of}
use Rattle.multi_site_world.specs.Laws.{IsInside}
use Rattle.multi_site_world.specs.Worlds.{WorldState, StandsForWorld, IsStep}

-- these are the cores of the sites, by number
abbrev pub AreCores : WorldState → (ℕ → SiteState) → Type 0
AreCores w at = (i : ℕ) → i < length w.cores → slice_get w.cores i ≡ Some (at i)

-- the rights of n sites together, each by its own book
abbrev pub rights_together : (ℕ → SiteState) → ℕ → ℕ → ℕ
rights_together at n r = total n (λ i. rights_of (core_view (at i)) r)

-- the seats that the sessions of n sites take together
abbrev pub seats_together : (ℕ → SiteState) → ℕ → ℕ → ℕ
seats_together at n r = total n (λ i. session_total (weight (seats_in (at i).layout r)) r (at i).sessions)

-- the seats that a site's book shows as given to another site, and the other's book does not show yet
abbrev pub seats_between : (ℕ → SiteState) → ℕ → ℕ → ℕ
seats_between at n r =
    total n (λ i. total_others n i (λ j. counter_of (at j).book r j (Out i) - counter_of (at i).book r j (Out i)))

-- The seats of a record are the rights of all sites, the seats of the sessions at all sites, and the seats in
-- flight (the invariant of the bounded counter, Balegas et al., 2015), and no site has spent more than it gained.
pub record SharesSeats (layout : LayoutState) (at : ℕ → SiteState) (r : ℕ) : Type 0 where
  pub seats : seats_in layout r ≡ rights_together at layout.sites r + (seats_together at layout.sites r + seats_between at layout.sites r)
  pub never_below : (i : ℕ) → i < layout.sites → spent (core_view (at i)) r ≤ gained (core_view (at i)) r

-- Seats are conserved; and while some site has a writer inside a record, no other session is inside it anywhere.
pub record IsSafe (w : WorldState) (at : ℕ → SiteState) : Type 0 where
  pub conserved : (r : ℕ) → SharesSeats w.layout at r
  pub writer_alone : (i j r h k : ℕ) → i < length w.cores → j < length w.cores → phase_in (at i).sessions r h ≡ Some Writer
      → IsInside (phase_in (at j).sessions r k) → (i ≡ j) × (h ≡ k)

-- the same of the cores of a world
abbrev pub IsSafeWorld : WorldState → Type 0
IsSafeWorld w = (at : ℕ → SiteState) → AreCores w at → IsSafe w at

-- Books of the same counters: they are equal where they are of as many sites, and else once they are widened to a
-- whole layout.
pub record AreEqualBooks (whole : Shape) (a b : BookState) : Type 0 where
  pub counters : (r s : ℕ) (cell : Cell) → counter_of a r s cell ≡ counter_of b r s cell
  pub equal : a.sites ≡ b.sites → a ≡ b
  pub widened : (x y : BookState) → IsBook x → IsBook y → IsWidened whole a x → IsWidened whole b y → x ≡ y

-- sites that know the same units have equal books (strong convergence, Shapiro et al., 2011)
abbrev pub HasEqualBooks : WorldState → Type 0
HasEqualBooks w =
    (at : ℕ → SiteState) → AreCores w at → (m : World) → StandsForWorld m w → (i j : ℕ) → i < length w.cores → j < length w.cores
    → SourcesAgree (account_at m i) (account_at m j) → AreEqualBooks (shape_of w.layout) (at i).book (at j).book

-- What no event does. Under problem 2 a site whose own book shows an unfinished writer admits no reader, and one
-- whom nothing else refuses is answered with the least site of such a writer; what a site knows of announced and
-- finished writers it does not forget; and no delta that a site sent is refused, but for a row of a site that the
-- taker has yet to know.
pub record IsLawful (old new : WorldState) (before after : ℕ → SiteState) (event : Event) (reply : WorldReply) : Type 0 where
  pub announced_first : (i r h s : ℕ) → i < length old.cores → event ≡ Call i (Read r h) → problem_in old.layout r ≡ 2
      → counter_of (before i).book r s Fin < counter_of (before i).book r s Ann → reply ≢ Core Admitted
  pub announced_named : (i r h s : ℕ) → i < length old.cores → event ≡ Call i (Read r h) → problem_in old.layout r ≡ 2
      → MayAsk (core_view (before i)) r h → IsFirstUnfinished (core_view (before i)) r s → reply ≡ Core (Refused (WriterAnnounced s))
  pub announced_kept : (i r s : ℕ) → i < length old.cores → counter_of (before i).book r s Ann ≤ counter_of (after i).book r s Ann
  pub finished_kept : (i r s : ℕ) → i < length old.cores → counter_of (before i).book r s Fin ≤ counter_of (after i).book r s Fin
  pub none_ahead : (r : ℕ) → reply ≢ Core (Refused (OwnRowAhead r))
  pub none_bad : (row : ℕ) → reply ≢ Core (Refused (BadRow row))
  pub other_layout : (row : ℕ) → reply ≡ Core (Refused (OtherLayout row)) → (before (place_of event)).layout.sites < old.layout.sites

-- the same of the cores of the worlds before and after an event
abbrev pub IsLawfulStep : WorldState → WorldState → Event → WorldReply → Type 0
IsLawfulStep old new event reply =
    (before after : ℕ → SiteState) → AreCores old before → AreCores new after → IsLawful old new before after event reply

-- one event: it is answered as the model answers it, breaks no law, and leaves a safe world of equal books
pub record IsSoundStep (old new : WorldState) (event : Event) (reply : WorldReply) : Type 0 where
  pub step : IsStep old new event reply
  pub lawful : IsLawfulStep old new event reply
  pub safe : IsSafeWorld new
  pub equal_books : HasEqualBooks new

-- events one after the other, each with its reply, and the worlds between them
abbrev pub AreSoundSteps : WorldState → List Event → List WorldReply → WorldState → Type 0
AreSoundSteps old [] [] new = old ≡ new
AreSoundSteps old (event ∷ events) (reply ∷ replies) new =
    (next : WorldState) × IsSoundStep old next event reply × AreSoundSteps next events replies new
AreSoundSteps old _ _ new = ⊥

-- the same from a world that stands for one of the model
pub record IsSoundRun (start : World) (events : List Event) (replies : List WorldReply) (new : WorldState) : Type 0 where
  pub first : WorldState
  pub stands : StandsForWorld start first
  pub safe : IsSafeWorld first
  pub equal_books : HasEqualBooks first
  pub steps : AreSoundSteps first events replies new
