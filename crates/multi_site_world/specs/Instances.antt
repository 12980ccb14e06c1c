-- Worlds and logs that meet the premises of the laws, so that none of these speaks of nothing.
use Rattle.std.specs.Prelude.{ℕ, ◌==◌, List, [], ◌∷◌, ◌++◌, if◌then◌else◌}
use Rattle.merge_core.specs.Delta.{DeltaState}
use Rattle.merge_core.specs.Layout.{LayoutState, at_sites}
use Rattle.admission_model.specs.declared.ask.Ask.TheVariants.{Read, Announce, Quill, Leave, Help}
use Rattle.admission_model.specs.declared.ask.Call.TheVariants.{Ask as AskCall, Merge, Snapshot as SnapshotCall}
use Rattle.session_list.specs.declared.session.Phase.TheVariants.{Writer}
use Rattle.admission_model.specs.declared.reply.Refusal.TheVariants.{WriterAnnounced, MissingSeats, NoPlan}
use Rattle.admission_model.specs.declared.reply.Reply.TheVariants.{Admitted, Announced, Left, Gave, Merged, Refused}
use Rattle.admission_model.specs.Account.{Account, begin, start_origin}
use Rattle.admission_model.specs.Serving.{Step, Serves, replay}
use Rattle.multi_site_world.specs.declared.event.Event.{Event}
use Rattle.multi_site_world.specs.declared.event.Event.TheVariants.{Call, Send, Take}
use Rattle.multi_site_world.specs.declared.event.WorldReply.{WorldReply}
use Rattle.multi_site_world.specs.declared.event.WorldReply.TheVariants.{Core, Sent}
use Rattle.multi_site_world.specs.World.{World, start_world, run}
use Rattle.multi_site_world.specs.Examples.{small_layout, writer_announced, writer_helped, writer_row, told_by}

-- three sites, three seats, problem 2
abbrev pub three_sites : LayoutState
three_sites = small_layout 3 3 2

-- a writer announces itself at site 1, and both other sites hear of it
abbrev pub writer_heard : World
writer_heard = run (Call 1 (Announce 0 5) ∷ Send 1 ∷ Take 0 0 ∷ Take 2 0 ∷ []) (start_world 3 three_sites)

-- the other sites, of which site 0 helps first
abbrev pub others_of_1 : List ℕ
others_of_1 = 0 ∷ (2 ∷ [])

-- the replies while site 1 gathers all seats
abbrev pub gathered_replies : List WorldReply
gathered_replies =
    Core (Gave 1 3) ∷ Sent 1 ∷ Core (Merged 1) ∷ Core (Refused NoPlan) ∷ Sent 2 ∷ Core (Merged 0) ∷ []

-- the world after the writer was helped twice
abbrev pub writer_there : World
writer_there = run (writer_announced ++ writer_helped) (start_world 3 three_sites)

-- the second message of that world
abbrev pub second_message : DeltaState
second_message = record { from = 0; rows = told_by 0 (3 ∷ (2 ∷ (0 ∷ []))) 1 0 0 ∷ (writer_row ∷ []) }

abbrev pub third_message : DeltaState
third_message = record { from = 0; rows = told_by 0 (4 ∷ (3 ∷ (0 ∷ []))) 1 0 0 ∷ (writer_row ∷ []) }

-- the same as logs of the sites' own, newest first: what site 0 did
abbrev pub log_of_0 : List Step
log_of_0 =
    Serves SnapshotCall ∷ (Serves (AskCall (Help 0)) ∷ (Serves (AskCall (Leave 0 1)) ∷ (Serves SnapshotCall ∷ (Serves (AskCall (Help 0))
    ∷ (Serves (AskCall (Read 0 2)) ∷ (Serves (Merge (record { from = 1; rows = writer_row ∷ [] })) ∷ (Serves (AskCall (Read 0 1)) ∷ [])))))))

-- .. and site 1
abbrev pub log_of_1 : List Step
log_of_1 =
    Serves (AskCall (Quill 0 5)) ∷ (Serves (Merge third_message) ∷ (Serves (AskCall (Quill 0 5)) ∷ (Serves (Merge second_message)
    ∷ (Serves SnapshotCall ∷ (Serves (AskCall (Announce 0 5)) ∷ [])))))

-- the log of each site, where site 0's may be cut to nothing
abbrev pub logs : List Step → ℕ → List Step
logs log_0 i = if i == 0 then log_0 else (if i == 1 then log_of_1 else [])

-- the accounts that the logs lead to
abbrev pub accounts_of : List Step → ℕ → Account
accounts_of log_0 i = replay (begin (start_origin (at_sites 3 three_sites) i)) (logs log_0 i)

-- writers and readers of the second and third of three records: each record goes by its own problem, seats and
-- home
abbrev pub records_used : List Event
records_used =
    Call 2 (Announce 1 5) ∷ Send 2 ∷ Take 1 0 ∷ Call 1 (Read 1 7) ∷ Call 2 (Announce 2 6) ∷ Send 2 ∷ Take 1 1
    ∷ Call 2 (Read 2 8) ∷ Call 2 (Quill 2 6) ∷ Call 1 (Help 1) ∷ Send 1 ∷ Take 2 2 ∷ Call 2 (Quill 1 5)
    ∷ Call 2 (Leave 1 5) ∷ Call 0 (Read 0 9) ∷ []

abbrev pub records_used_replies : List WorldReply
records_used_replies =
    Core (Announced 1) ∷ Sent 0 ∷ Core (Merged 1) ∷ Core (Refused (WriterAnnounced 2)) ∷ Core (Announced 1) ∷ Sent 1
    ∷ Core (Merged 1) ∷ Core Admitted ∷ Core (Refused (MissingSeats 4 5)) ∷ Core (Gave 2 3) ∷ Sent 2 ∷ Core (Merged 1)
    ∷ Core Admitted ∷ Core (Left Writer) ∷ Core Admitted ∷ []
