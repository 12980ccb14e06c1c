-- Short histories of three sites with two seats, and what a resource is shown.
use Rattle.std.specs.Prelude.{◌≡◌, ℕ, ◌+◌, ◌<◌, true, false, List, [], ◌∷◌, ◌++◌, Some}
use Rattle.merge_core.specs.Counts.{counter_limit}
use Rattle.merge_core.specs.declared.cell.Cell.TheVariants.{Taken}
use Rattle.merge_core.specs.Delta.{DeltaState}
use Rattle.admission_model.specs.declared.ask.Ask.TheVariants.{Read, Announce, Quill, Leave, Give}
use Rattle.session_list.specs.declared.session.Phase.TheVariants.{Waiting}
use Rattle.admission_model.specs.Account.{own, phase_of, seats_in}
use Rattle.admission_model.specs.View.{view_of}
use Rattle.admission_model.specs.Merging.{snapshot_of}
use Rattle.multi_site_world.specs.declared.event.Event.{Event}
use Rattle.multi_site_world.specs.declared.event.Event.TheVariants.{Call, Send, Take, Thin}
use Rattle.multi_site_world.specs.World.{World, account_at, start_world, run}
use Rattle.multi_site_world.specs.Laws.{IsReachedWorld}
use Rattle.multi_site_world.specs.Examples.{small_layout}
use Rattle.fencing_laws.specs.Resource.{Token}

-- the world that events lead to
abbrev pub after_events : List Event → World
after_events events = run events (start_world 3 (small_layout 3 2 1))

-- the first writer enters at site 0
abbrev pub first_writer : List Event
first_writer = Call 0 (Announce 0 5) ∷ (Call 0 (Quill 0 5) ∷ [])

-- it leaves, and its seats go to site 1
abbrev pub first_leaves : List Event
first_leaves = Call 0 (Leave 0 5) ∷ (Call 0 (Give 0 1 2) ∷ [])

-- .. of which the first message tells
abbrev pub first_message : DeltaState
first_message = snapshot_of (view_of (account_at (after_events (first_writer ++ first_leaves)) 0))

-- .. and on to site 2: the second message shows the seats in a row of site 1, and the finished writer in that of site 0
abbrev pub seats_go_on : List Event
seats_go_on = Send 0 ∷ (Take 1 0 ∷ (Call 1 (Give 0 2 2) ∷ (Send 1 ∷ [])))

abbrev pub second_message_sent : List Event
second_message_sent = first_writer ++ (first_leaves ++ seats_go_on)

-- a writer enters at site 2
abbrev pub second_writer : List Event
second_writer = Call 2 (Announce 0 6) ∷ (Call 2 (Quill 0 6) ∷ [])

-- the first writer leaves; site 2 takes the second message whole, and a writer enters there
abbrev pub taken_whole : List Event
taken_whole = first_leaves ++ (seats_go_on ++ (Take 2 1 ∷ second_writer))

-- the same, but it takes the second message thin, without the rows of the first one, which it never took
abbrev pub taken_thin : List Event
taken_thin = first_leaves ++ (seats_go_on ++ (Thin 2 1 0 ∷ second_writer))

-- the same, after it took the first one
abbrev pub both_taken : List Event
both_taken = first_leaves ++ (seats_go_on ++ (Take 2 0 ∷ (Thin 2 1 0 ∷ second_writer)))

-- a writer of site 0 withdraws; then a reader is inside at site 0, and one at site 1
abbrev pub two_readers : List Event
two_readers =
    Call 0 (Give 0 1 1) ∷ (Send 0 ∷ (Take 1 0 ∷ (Call 0 (Announce 0 5) ∷ (Call 0 (Leave 0 5) ∷ (Call 0 (Read 0 7) ∷ (Call 1 (Read 0 8) ∷ []))))))

-- a reader is inside at site 0; one writer waits at site 1, and one at site 2
abbrev pub writers_wait : List Event
writers_wait = Call 0 (Read 0 1) ∷ (Call 1 (Announce 0 2) ∷ (Call 2 (Announce 0 6) ∷ []))

-- the token of a reader with this number
abbrev pub reader_with : ℕ → Token
reader_with n = record { writes = false; number = n }

-- the token of a writer with this number
abbrev pub writer_with : ℕ → Token
writer_with n = record { writes = true; number = n }

-- a reached world in which a writer waits at site 0, whose counter of seats taken has no room for it
pub record IsFilled : Type 0 where
  pub world : World
  pub reached : IsReachedWorld world
  pub there : 0 < world.layout.sites
  pub waits : phase_of (account_at world 0) 0 5 ≡ Some Waiting
  pub full : counter_limit < own (account_at world 0) 0 Taken + seats_in world.layout 0
