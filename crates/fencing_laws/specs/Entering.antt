-- That no reached world is stuck: what may happen so that a writer who waits is admitted (this project's own).
use Rattle.std.specs.Prelude.{◌≡◌, ◌≢◌, ℕ, ◌+◌, ◌<◌, ◌≤◌, ◌⊎◌, List, [], ◌∷◌, Option, Some, None}
use Rattle.merge_core.specs.Counts.{counter_limit}
use Rattle.merge_core.specs.declared.cell.Cell.TheVariants.{Out, Taken}
use Rattle.session_list.specs.declared.session.Phase.{Phase}
use Rattle.session_list.specs.declared.session.Phase.TheVariants.{Reader, Waiting, Writer}
use Rattle.admission_model.specs.declared.ask.Ask.{Ask}
use Rattle.admission_model.specs.declared.ask.Ask.TheVariants.{Read, Announce, Quill, Leave, Give, Help}
use Rattle.admission_model.specs.declared.reply.Reply.TheVariants.{Admitted}
use Rattle.admission_model.specs.Account.{seats_in, own, phase_of}
use Rattle.multi_site_world.specs.declared.event.Event.{Event}
use Rattle.multi_site_world.specs.declared.event.Event.TheVariants.{Call, Send, Take, Thin, Restart, Grow}
use Rattle.multi_site_world.specs.declared.event.WorldReply.TheVariants.{Core}
use Rattle.multi_site_world.specs.World.{World, account_at, happens, world_reply, run}
use Rattle.multi_site_world.specs.Laws.{IsInside}

-- a session at site i goes before a writer of site w: it is inside, or a writer that waits at a site of a smaller number
abbrev pub GoesFirst : ℕ → ℕ → Option Phase → Type 0
GoesFirst w i None = ⊥
GoesFirst w i (Some Reader) = Unit {0}
GoesFirst w i (Some Waiting) = i < w
GoesFirst w i (Some Writer) = Unit {0}

-- what is asked for the sake of a writer of record r at site w: that a session that goes first leaves, or that a site helps
abbrev pub IsFairAsk : ℕ → ℕ → World → ℕ → Ask → Type 0
IsFairAsk r w u i (Leave q k) = (q ≡ r) × GoesFirst w i (phase_of (account_at u i) r k)
IsFairAsk r w u i (Help q) = q ≡ r
IsFairAsk r w u i (Read q k) = ⊥
IsFairAsk r w u i (Announce q k) = ⊥
IsFairAsk r w u i (Quill q k) = ⊥
IsFairAsk r w u i (Give q to seats) = ⊥

-- what happens for its sake: such an ask; a site sends, takes a whole message, or comes to know all sites
abbrev pub IsFair : ℕ → ℕ → World → Event → Type 0
IsFair r w u (Call i ask) = IsFairAsk r w u i ask
IsFair r w u (Send i) = Unit {0}
IsFair r w u (Take i k) = Unit {0}
IsFair r w u (Thin i k l) = ⊥
IsFair r w u (Restart i) = ⊥
IsFair r w u (Grow i) = Unit {0}

-- each event of a list is fair, in the world that the earlier ones lead to
abbrev pub AreFair : ℕ → ℕ → List Event → World → Type 0
AreFair r w [] u = Unit {0}
AreFair r w (event ∷ events) u = IsFair r w u event × AreFair r w events (happens u event)

-- A session of record q at site i is as it was before, or has left record r: it was inside, or a writer that waited at a
-- site of a smaller number than w.
abbrev pub IsAsBeforeOrGone : ℕ → ℕ → ℕ → ℕ → Option Phase → Option Phase → Type 0
IsAsBeforeOrGone r w i q before after =
    (after ≡ before) ⊎ ((q ≡ r) × ((after ≡ None) × (IsInside before ⊎ ((before ≡ Some Waiting) × (i < w)))))

-- a writer waits at w, and no counter is so full that the record's seats could not be moved to w and taken there
pub record WaitsToEnter (u : World) (r w h : ℕ) : Type 0 where
  pub there : w < u.layout.sites
  pub waits : phase_of (account_at u w) r h ≡ Some Waiting
  pub room : own (account_at u w) r Taken + seats_in u.layout r ≤ counter_limit
  pub room_to_give : (i : ℕ) → i < u.layout.sites → i ≢ w → own (account_at u i) r (Out w) + seats_in u.layout r ≤ counter_limit

-- some list of fair events leads to a world in which the writer is admitted
pub record CanEnter (u : World) (r w h : ℕ) : Type 0 where
  pub events : List Event
  pub fair : AreFair r w events u
  pub admitted : world_reply (run events u) (Call w (Quill r h)) ≡ Core Admitted
