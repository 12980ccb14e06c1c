-- The world of running sites as contracts see it, and for which worlds of the model it stands.
use Rattle.std.specs.Prelude.{◌≡◌, ℕ, ◌<◌, ◌⊎◌, Bool, true, false, List, [], ◌∷◌, length, nat_lt, slice_get, slice_index_or, if◌then◌else◌, Option, Some, None, Result, Ok, Err}
use Rattle.merge_core.specs.Delta.{DeltaState}
use Rattle.merge_core.specs.Layout.{LayoutState, IsLayout, layout_fault, at_sites}
use Rattle.admission_model.specs.declared.ask.Call.TheVariants.{Ask as AskCall, Merge}
use Rattle.admission_model.specs.declared.reply.Refusal.{Refusal}
use Rattle.admission_model.specs.declared.reply.Refusal.TheVariants.{Memory as NoMemory}
use Rattle.admission_model.specs.declared.reply.Reply.{Reply}
use Rattle.admission_model.specs.declared.reply.Reply.TheVariants.{Refused}
use Rattle.admission_model.specs.View.{view_of}
use Rattle.admission_model.specs.Serving.{reason}
use Rattle.admission_core.specs.Core.{Core as SiteState, Stands}
use Rattle.multi_site_world.specs.declared.event.Event.{Event}
use Rattle.multi_site_world.specs.declared.event.Event.TheVariants.{Call, Send, Take, Thin, Restart, Grow}
use Rattle.multi_site_world.specs.declared.event.WorldReply.{WorldReply}
use Rattle.multi_site_world.specs.declared.event.WorldReply.TheVariants.{Core, Restarted, NoSite, NoMessage, NoGrowth, Memory}
use Rattle.multi_site_world.specs.declared.growth.GrowthError.{GrowthError}
use Rattle.multi_site_world.specs.declared.growth.GrowthError.TheVariants.{BadGrowth, Memory as NoRoom}
use Rattle.multi_site_world.specs.World.{World, account_at, start_world, thin_message, place_of, happens, world_here, run, reply_here, world_reply, replies}
use Rattle.multi_site_world.specs.Laws.{IsReachedWorld}

-- a world's whole layout, the cores of its sites, and its messages
pub record WorldState : Type 0 where
  pub layout : LayoutState
  pub cores : List SiteState
  pub sent : List DeltaState  -- by number, from 0

-- the cores are those of a world's sites, of each as many as the layout has
pub record HasCores (m : World) (cores : List SiteState) : Type 0 where
  pub number : length cores ≡ length m.sites
  pub each : (i : ℕ) (none : SiteState) → i < length m.sites → Stands (account_at m i) (slice_index_or cores i none)

-- The world of running sites stands for a reached world of the model: layout and messages are the same, and
-- each core stands for the site's account.
pub record StandsForWorld (m : World) (w : WorldState) : Type 0 where
  pub reached : IsReachedWorld m
  pub layout : w.layout ≡ m.layout
  pub sent : w.sent ≡ m.sent
  pub cores : HasCores m w.cores

-- every world has a layout and as many cores as sites, and stands for some world of the model
pub record IsWorldState (w : WorldState) : Type 0 where
  pub layout : IsLayout w.layout
  pub number : length w.cores ≡ w.layout.sites
  pub model : World
  pub stands : StandsForWorld model w

-- the event was answered want of memory
abbrev pub is_wanting : WorldReply → Bool
is_wanting Memory = true
is_wanting _ = false

-- a core's reply as the world's: want of memory is the world's own
abbrev pub reply_of_core : Reply → WorldReply
reply_of_core (Refused NoMemory) = Memory
reply_of_core reply = Core reply

-- the world after an event that was answered so: want of memory leaves it as it was
abbrev pub stepped : World → Event → WorldReply → World
stepped m event reply = if is_wanting reply then m else happens m event

-- a refusal that a site gives, as the world's reply
abbrev pub refused_by : Option Refusal → Option WorldReply
refused_by (Some refusal) = Some (reply_of_core (Refused refusal))
refused_by None = None

-- the refusal of a message that a site takes, if it is refused
abbrev pub refusal_taken : World → ℕ → Option DeltaState → Option WorldReply
refusal_taken m i None = Some NoMessage
refusal_taken m i (Some delta) = refused_by (reason (view_of (account_at m i)) (Merge delta))

-- the refusal of a thin message, which is judged only once it is made: that one of the two is missing
abbrev pub refusal_thin : Option DeltaState → Option WorldReply
refusal_thin None = Some NoMessage
refusal_thin (Some delta) = None

-- What an event is answered whatever memory there is, if that is known: its refusal; and a restart, which takes
-- no memory.
abbrev pub certain_here : World → Event → Option WorldReply
certain_here m (Call i ask) = refused_by (reason (view_of (account_at m i)) (AskCall ask))
certain_here m (Send i) = None
certain_here m (Take i k) = refusal_taken m i (slice_get m.sent k)
certain_here m (Thin i k l) = refusal_thin (thin_message (slice_get m.sent k) (slice_get m.sent l))
certain_here m (Restart i) = Some Restarted
certain_here m (Grow i) = if nat_lt (account_at m i).sites m.layout.sites then None else Some NoGrowth

abbrev pub certain_reply : World → Event → Option WorldReply
certain_reply m event = if nat_lt (place_of event) (length m.sites) then certain_here m event else Some NoSite

-- The event is answered as the model answers it, want of memory aside, which never stands in place of a refusal;
-- and it leaves a world that stands for the one that the model leaves.
pub record IsStep (old new : WorldState) (event : Event) (reply : WorldReply) : Type 0 where
  pub answered : is_wanting reply ≡ false → (m : World) → StandsForWorld m old → reply ≡ world_reply m event
  pub certain : (sure : WorldReply) (m : World) → StandsForWorld m old → certain_reply m event ≡ Some sure → reply ≡ sure
  pub world : (m : World) → StandsForWorld m old → StandsForWorld (stepped m event reply) new

-- the same of an event at a site that there is
pub record IsStepHere (old new : WorldState) (event : Event) (reply : WorldReply) : Type 0 where
  pub answered : is_wanting reply ≡ false → (m : World) → StandsForWorld m old → reply ≡ reply_here m event
  pub certain : (sure : WorldReply) (m : World) → StandsForWorld m old → certain_here m event ≡ Some sure → reply ≡ sure
  pub world : (m : World) → StandsForWorld m old → StandsForWorld (if is_wanting reply then m else world_here m event) new

-- the first sites are all of the layout's, or fewer under which the same records are a layout
abbrev pub MayBeFirst : ℕ → LayoutState → Type 0
MayBeFirst first layout = (first ≡ layout.sites) ⊎ ((first < layout.sites) × (layout_fault first layout.records ≡ None))

-- why there is no world of so many first sites; out of memory never stands in place of the other cause
abbrev pub IsNoFirst : ℕ → LayoutState → GrowthError → Type 0
IsNoFirst first layout BadGrowth = ¬ MayBeFirst first layout
IsNoFirst first layout NoRoom = MayBeFirst first layout

-- the answer to a number of first sites: their layout, or why there is none
abbrev pub IsFirstLayout : ℕ → LayoutState → Result LayoutState GrowthError → Type 0
IsFirstLayout first layout (Ok earlier) = MayBeFirst first layout × (earlier ≡ at_sites first layout)
IsFirstLayout first layout (Err e) = IsNoFirst first layout e

-- the answer to a number of first sites: the world before any event, or why there is none
abbrev pub IsBegun : ℕ → LayoutState → Result WorldState GrowthError → Type 0
IsBegun first layout (Ok w) = MayBeFirst first layout × StandsForWorld (start_world first layout) w
IsBegun first layout (Err e) = IsNoFirst first layout e

-- the events that were not answered want of memory
abbrev pub served_events : List Event → List WorldReply → List Event
served_events (event ∷ events) (reply ∷ rest) =
    if is_wanting reply then served_events events rest else (event ∷ served_events events rest)
served_events _ _ = []

-- the replies but want of memory
abbrev pub served_replies : List WorldReply → List WorldReply
served_replies [] = []
served_replies (reply ∷ rest) = if is_wanting reply then served_replies rest else (reply ∷ served_replies rest)

-- A run of events from a world: a reply for each event in order. Without those that found no memory, the
-- replies are the model's, and so is the world that is left.
pub record IsRun (start : World) (events : List Event) (w : WorldState) (answers : List WorldReply) : Type 0 where
  pub number : length answers ≡ length events
  pub answered : served_replies answers ≡ replies (served_events events answers) start
  pub world : StandsForWorld (run (served_events events answers) start) w
