-- A world: an account for each site, and every message that was ever sent. The network may lose, repeat and
-- reorder: which messages a site takes, how often and in which order is left to the events. Some sites may
-- begin under an earlier layout, with fewer sites, and grow later.
use Rattle.std.specs.Prelude.{ℕ, zero, suc, min, nat_lt, List, [], ◌∷◌, ◌++◌, length, set, slice_get, slice_index_or, if◌then◌else◌, Option, Some, None}
use Rattle.merge_core.specs.Delta.{DeltaState}
use Rattle.merge_core.specs.Layout.{LayoutState, at_sites}
use Rattle.merge_core.specs.Thin.{thin_rows}
use Rattle.admission_model.specs.declared.ask.Call.TheVariants.{Ask as AskCall, Merge}
use Rattle.admission_model.specs.Account.{Account, begin, start_origin}
use Rattle.admission_model.specs.Knowledge.{restarted, grown}
use Rattle.admission_model.specs.View.{view_of}
use Rattle.admission_model.specs.Merging.{snapshot_of}
use Rattle.admission_model.specs.Serving.{reply_of, after}
use Rattle.multi_site_world.specs.declared.event.Event.{Event}
use Rattle.multi_site_world.specs.declared.event.Event.TheVariants.{Call, Send, Take, Thin, Restart, Grow}
use Rattle.multi_site_world.specs.declared.event.WorldReply.{WorldReply}
use Rattle.multi_site_world.specs.declared.event.WorldReply.TheVariants.{Core, Sent, Restarted, Grown, NoSite, NoMessage, NoGrowth}

-- a world: its whole layout, its sites' accounts, and its messages
pub record World : Type 0 where
  pub layout : LayoutState
  pub sites : List Account
  pub sent : List DeltaState  -- by number, from 0

-- the layout that site i begins with: the first sites know one another, every other site knows all
abbrev pub first_layout : ℕ → LayoutState → ℕ → LayoutState
first_layout first layout i = if nat_lt i first then at_sites (min first layout.sites) layout else layout

-- the account that site i begins with
abbrev pub first_account : ℕ → LayoutState → ℕ → Account
first_account first layout i = begin (start_origin (first_layout first layout i) i)

-- an account from the start for each of the first n sites
abbrev pub first_accounts : ℕ → LayoutState → ℕ → List Account
first_accounts first layout zero = []
first_accounts first layout (suc n) = first_accounts first layout n ++ first_account first layout n ∷ []

-- the world before any event
abbrev pub start_world : ℕ → LayoutState → World
start_world first layout = record { layout = layout; sites = first_accounts first layout layout.sites; sent = [] }

-- the account of site i
abbrev pub account_at : World → ℕ → Account
account_at w i = slice_index_or w.sites i (begin (start_origin w.layout i))

-- the world with another account of site i
abbrev pub with_account : World → ℕ → Account → World
with_account w i a = record w { sites = set w.sites i a }

-- site i takes a message
abbrev pub world_taken : World → ℕ → Option DeltaState → World
world_taken w i None = w
world_taken w i (Some delta) = with_account w i (after (account_at w i) (Merge delta))

-- and what it answers
abbrev pub reply_taken : World → ℕ → Option DeltaState → WorldReply
reply_taken w i None = NoMessage
reply_taken w i (Some delta) = Core (reply_of (view_of (account_at w i)) (Merge delta))

-- a message thin against an earlier one: the rows for which the earlier one has no equal row
abbrev pub thin : DeltaState → DeltaState → DeltaState
thin delta earlier = record { from = delta.from; rows = thin_rows delta.rows earlier.rows }

-- the same of two messages, where both are there
abbrev pub thin_message : Option DeltaState → Option DeltaState → Option DeltaState
thin_message (Some delta) (Some earlier) = Some (thin delta earlier)
thin_message None earlier = None
thin_message (Some delta) None = None

-- site i is started again under the whole layout
abbrev pub world_grown : World → ℕ → World
world_grown w i =
    if nat_lt (account_at w i).sites w.layout.sites then with_account w i (grown w.layout.sites (account_at w i)) else w

-- an event at a site that there is
abbrev pub world_here : World → Event → World
world_here w (Call i ask) = with_account w i (after (account_at w i) (AskCall ask))
world_here w (Send i) = record w { sent = w.sent ++ snapshot_of (view_of (account_at w i)) ∷ [] }
world_here w (Take i k) = world_taken w i (slice_get w.sent k)
world_here w (Thin i k l) = world_taken w i (thin_message (slice_get w.sent k) (slice_get w.sent l))
world_here w (Restart i) = with_account w i (restarted (account_at w i))
world_here w (Grow i) = world_grown w i

-- and what it is answered
abbrev pub reply_here : World → Event → WorldReply
reply_here w (Call i ask) = Core (reply_of (view_of (account_at w i)) (AskCall ask))
reply_here w (Send i) = Sent (length w.sent)
reply_here w (Take i k) = reply_taken w i (slice_get w.sent k)
reply_here w (Thin i k l) = reply_taken w i (thin_message (slice_get w.sent k) (slice_get w.sent l))
reply_here w (Restart i) = Restarted
reply_here w (Grow i) = if nat_lt (account_at w i).sites w.layout.sites then Grown else NoGrowth

-- the site of an event
abbrev pub place_of : Event → ℕ
place_of (Call i ask) = i
place_of (Send i) = i
place_of (Take i k) = i
place_of (Thin i k l) = i
place_of (Restart i) = i
place_of (Grow i) = i

-- the world after an event, and the event's reply
abbrev pub happens : World → Event → World
happens w event = if nat_lt (place_of event) (length w.sites) then world_here w event else w

abbrev pub world_reply : World → Event → WorldReply
world_reply w event = if nat_lt (place_of event) (length w.sites) then reply_here w event else NoSite

-- the world after a list of events, in order, and their replies
abbrev pub run : List Event → World → World
run [] w = w
run (event ∷ events) w = run events (happens w event)

abbrev pub replies : List Event → World → List WorldReply
replies [] w = []
replies (event ∷ events) w = world_reply w event ∷ replies events (happens w event)
