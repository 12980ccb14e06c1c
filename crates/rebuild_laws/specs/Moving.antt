-- A new group while some sites have not joined it yet: they go on in the old one, and neither takes a text of the other.
use Rattle.std.specs.Prelude.{◌≡◌, ℕ, Bool, true, length, List}
use Rattle.std.specs.List.{AllByRecursion}
use Rattle.multi_site_world.specs.declared.event.Event.{Event}
use Rattle.multi_site_world.specs.World.{World, account_at, place_of}

-- the events are all of sites that have moved
abbrev pub AreOfMoved : (ℕ → Bool) → List Event → Type 0
AreOfMoved moved events = AllByRecursion (λ event. moved (place_of event) ≡ true) events

-- two worlds in which these sites are the same, whatever the others did meanwhile
pub record IsSameAt (moved : ℕ → Bool) (u w : World) : Type 0 where
  pub layout : u.layout ≡ w.layout
  pub number : length u.sites ≡ length w.sites
  pub sites : (i : ℕ) → moved i ≡ true → account_at u i ≡ account_at w i

-- .. and the messages
pub record IsSameFor (moved : ℕ → Bool) (u w : World) : Type 0 where
  pub at : IsSameAt moved u w
  pub sent : u.sent ≡ w.sent
