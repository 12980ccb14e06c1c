-- What playing a script gives: the replies of the model's world to the lines that were read, and the world after
-- them.
use Rattle.std.specs.Prelude.{◌≡◌, ℕ, ◌+◌, Bool, true, false, List, [], ◌∷◌, ◌++◌, length, map, Option, Some, None}
use Rattle.merge_core.specs.declared.layout.RecordSpec.{RecordSpec}
use Rattle.script_text.specs.Replies.{unread_line}
use Rattle.multi_site_world.specs.declared.event.Event.{Event}
use Rattle.multi_site_world.specs.World.{World, happens, run, replies, world_reply}
use Rattle.multi_site_world.specs.Worlds.{WorldState, StandsForWorld}
use Rattle.world_script.specs.Events.{event_in}
use Rattle.world_script.specs.Replies.{reply_line, reply_lines}

-- each line says an event; these are they, in order
abbrev pub AreEvents : List RecordSpec → List (List ℕ) → List Event → Type 0
AreEvents records lines events = map (event_in records) lines ≡ map Some events

-- every line says an event: the text has the model's reply to each, and the world is the one after all of them
pub record PlaysAll (m : World) (records : List RecordSpec) (lines : List (List ℕ)) (text : List ℕ) (w : WorldState) : Type 0 where
  pub events : List Event
  pub read : AreEvents records lines events
  pub text_is : text ≡ reply_lines (replies events m)
  pub world : StandsForWorld (run events m) w

-- some line says none: the text has the replies to the lines before the first such, and then tells of it
pub record PlaysUpTo (m : World) (records : List RecordSpec) (lines : List (List ℕ)) (text : List ℕ) (w : WorldState) : Type 0 where
  pub before : List (List ℕ)
  pub line : List ℕ
  pub behind : List (List ℕ)
  pub split : lines ≡ before ++ line ∷ behind
  pub events : List Event
  pub read : AreEvents records before events
  pub unread : event_in records line ≡ None
  pub text_is : text ≡ reply_lines (replies events m) ++ unread_line (length before + 1)
  pub world : StandsForWorld (run events m) w

-- one of the two
abbrev pub Plays : World → List RecordSpec → List (List ℕ) → Bool → List ℕ → WorldState → Type 0
Plays m records lines true text w = PlaysAll m records lines text w
Plays m records lines false text w = PlaysUpTo m records lines text w

-- one line that says an event: it has happened, and its reply is written
pub record PlaysEvent (m : World) (records : List RecordSpec) (line old new : List ℕ) (w : WorldState) : Type 0 where
  pub event : Event
  pub read : event_in records line ≡ Some event
  pub text_is : new ≡ old ++ reply_line (world_reply m event)
  pub world : StandsForWorld (happens m event) w

-- one that says none, which is told with its number
pub record PlaysNone (m : World) (records : List RecordSpec) (line : List ℕ) (number : ℕ) (old new : List ℕ) (w : WorldState) : Type 0 where
  pub unread : event_in records line ≡ None
  pub text_is : new ≡ old ++ unread_line number
  pub world : StandsForWorld m w

-- one of the two
abbrev pub PlaysLine : World → List RecordSpec → List ℕ → ℕ → Bool → List ℕ → List ℕ → WorldState → Type 0
PlaysLine m records line number true old new w = PlaysEvent m records line old new w
PlaysLine m records line number false old new w = PlaysNone m records line number old new w

-- on the way: so many lines are played, and the rest is still to come
pub record PlaysSoFar (m : World) (records : List RecordSpec) (lines rest : List (List ℕ)) (number : ℕ) (text : List ℕ) (w : WorldState) : Type 0 where
  pub before : List (List ℕ)
  pub split : lines ≡ before ++ rest
  pub counted : length before ≡ number
  pub played : PlaysAll m records before text w
