-- How the map of a site's sessions, each with the number of its arrival, is read as a list. No public
-- contract cites this.
use Rattle.std.specs.Prelude.{ℕ, ◌-◌, ◌^◌, ◌<◌, ◌==◌, ◌&&◌, Bool, List, map, min, All, nat_eq}
use Rattle.std.specs.List.{IsDistinct}
use Rattle.std.specs.Map.{keys_of}
use Rattle.indexmap.specs.IndexMap.{spare}
use Rattle.session_list.specs.declared.session.Session.{Session}
use Rattle.session_list.specs.declared.sessions.Place.{Place}
use Rattle.session_list.specs.declared.sessions.Sessions.TheInside.{Inside}
use Rattle.session_list.specs.Sessions.{Held}
use Rattle.session_list.specs.Order.{in_order}

-- a record with a holder, and what is kept of their session
abbrev pub Entry : Type 0
Entry = (ℕ × ℕ) × Place

-- the number of an entry's arrival
abbrev pub number_of : Entry → ℕ
number_of e = e.1.arrived

-- the session of an entry
abbrev pub session_of : Entry → Session
session_of e = record { r = e.0.0; h = e.0.1; phase = e.1.phase }

-- the sessions of the entries whose numbers are below the next, in the order of these numbers
abbrev pub sessions_by : List Entry → ℕ → List Session
sessions_by es next = map session_of (in_order number_of next es)

-- there is room where the map has room and a number is left
abbrev pub held_by : Inside → Held
held_by k = record { sessions = sessions_by k.map.entries k.next; room = min (spare k.map) (2 ^ 64 - 1 - k.next) }

-- the same record and holder
abbrev pub same_key : ℕ × ℕ → ℕ × ℕ → Bool
same_key x y = (x.0 == y.0) && (x.1 == y.1)

-- keys and numbers are distinct, and each number is below the next
pub record IsNumbered (es : List Entry) (next : ℕ) : Type 0 where
  pub unique : IsDistinct same_key (keys_of es)
  pub numbers : IsDistinct nat_eq (map number_of es)
  pub below : All (λ n. n < next) (map number_of es)

-- so are those of the map
abbrev pub IsKept : Inside → Type 0
IsKept k = IsNumbered k.map.entries k.next
