-- What a resource that the sessions use does with their numbers: it refuses a session that is out of date (the fencing
-- tokens of Kleppmann, "How to do distributed locking", 2016; there one number is remembered, and readers have none).
use Rattle.std.specs.Prelude.{◌≡◌, ℕ, ◌<◌, ◌||◌, ◌&&◌, not, Bool, true, max, nat_le, nat_lt, if◌then◌else◌, List, [], ◌∷◌, Option, Some, None}
use Rattle.session_list.specs.declared.session.Phase.{Phase}
use Rattle.session_list.specs.declared.session.Phase.TheVariants.{Reader, Writer}
use Rattle.admission_model.specs.Account.{phase_of}
use Rattle.multi_site_world.specs.declared.event.Event.{Event}
use Rattle.multi_site_world.specs.World.{World, account_at, run}
use Rattle.rebuild_laws.specs.Groups.{IsRebuiltWorld}
use Rattle.fencing_laws.specs.Fences.{fence, AreWellTold}

-- what a session shows to a resource: whether it writes, and its number
pub record Token : Type 0 where
  pub writes : Bool
  pub number : ℕ

-- A resource that has let in `old` lets in `new` (this project's own rule, for readers and writers): a writer if its
-- number is no smaller; a reader after a reader, whatever their numbers; a reader after a writer if its number is greater.
abbrev pub allows : Token → Token → Bool
allows old new = if new.writes then nat_le old.number new.number else (not old.writes || nat_lt old.number new.number)

-- each of those that were let in allows it
abbrev pub all_allow : List Token → Token → Bool
all_allow [] new = true
all_allow (old ∷ olds) new = allows old new && all_allow olds new

-- what a resource remembers of those that it let in: the greatest number, and the greatest of a writer, if there was one
pub record Seen : Type 0 where
  pub greatest : ℕ
  pub of_writers : Option ℕ

-- the greater of two numbers, of which the first may be missing
abbrev pub greater_of : Option ℕ → ℕ → ℕ
greater_of None n = n
greater_of (Some m) n = max m n

-- what a resource remembers once it let in one more
abbrev pub with_token : Seen → Token → Seen
with_token seen it = record {
  greatest = max seen.greatest it.number;
  of_writers = if it.writes then Some (greater_of seen.of_writers it.number) else seen.of_writers;
}

-- what a resource remembers of all that it let in, of which the last stands first
abbrev pub seen_of : List Token → Seen
seen_of [] = record { greatest = 0; of_writers = None }
seen_of (it ∷ rest) = with_token (seen_of rest) it

-- the number is above one that may be missing
abbrev pub is_above : Option ℕ → ℕ → Bool
is_above None n = true
is_above (Some m) n = nat_lt m n

-- whether a resource lets in one more, by what it remembers
abbrev pub lets_in : Seen → Token → Bool
lets_in seen it = if it.writes then nat_le seen.greatest it.number else is_above seen.of_writers it.number

-- the phase of a session that shows such a token
abbrev pub phase_for : Bool → Phase
phase_for writes = if writes then Writer else Reader

-- in this world holder h is inside record r at site i, and takes this token
pub record IsTokenOf (w : World) (r i h : ℕ) (it : Token) : Type 0 where
  pub there : i < w.layout.sites
  pub inside : phase_of (account_at w i) r h ≡ Some (phase_for it.writes)
  pub number : it.number ≡ fence w i r

-- some session took the token in this world, or in one that leads to it
pub record WasTaken (u : World) (r : ℕ) (old : Token) : Type 0 where
  pub world : World
  pub reached : IsRebuiltWorld world
  pub site : ℕ
  pub holder : ℕ
  pub taken : IsTokenOf world r site holder old
  pub events : List Event
  pub well : AreWellTold events world
  pub leads : u ≡ run events world

-- another session takes the token `old` in a world in which holder k is inside at site j, as `new` says
pub record IsTakenBeside (r j k : ℕ) (new old : Token) : Type 0 where
  pub world : World
  pub reached : IsRebuiltWorld world
  pub site : ℕ
  pub holder : ℕ
  pub taken : IsTokenOf world r site holder old
  pub there : j < world.layout.sites
  pub inside : phase_of (account_at world j) r k ≡ Some (phase_for new.writes)
  pub other : ¬ ((site ≡ j) × (holder ≡ k))
