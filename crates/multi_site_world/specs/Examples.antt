-- Short scripts over two small layouts, with the replies that are wanted.
use Rattle.std.specs.Prelude.{ℕ, zero, suc, ◌+◌, ◌-◌, ◌==◌, ◌&&◌, if◌then◌else◌, List, [], ◌∷◌, ◌++◌}
use Rattle.merge_core.specs.declared.cell.Cell.{Cell}
use Rattle.merge_core.specs.declared.cell.Cell.TheVariants.{Out, Taken, Ann, Fin}
use Rattle.merge_core.specs.declared.delta.Row.{Row}
use Rattle.merge_core.specs.Delta.{DeltaState}
use Rattle.merge_core.specs.Layout.{LayoutState}
use Rattle.admission_model.specs.declared.ask.Ask.TheVariants.{Read, Announce, Quill, Leave, Give, Help}
use Rattle.session_list.specs.declared.session.Phase.TheVariants.{Reader, Waiting, Writer}
use Rattle.admission_model.specs.declared.reply.Refusal.TheVariants.{NoRecord, BadHolder, AlreadyHere, CounterFull, NoSeat, WriterAnnounced, TooManyWriters, NotAnnounced, AlreadyInside, MissingSeats, NotHere, NoSite as NoSuchSite, ToSelf, ZeroSeats, TooFewRights, NoPlan, OtherLayout}
use Rattle.admission_model.specs.declared.reply.Reply.{Reply}
use Rattle.admission_model.specs.declared.reply.Reply.TheVariants.{Admitted, Announced, Left, Given, Gave, Merged, Refused}
use Rattle.admission_model.specs.Account.{begin, own, inside}
use Rattle.admission_model.specs.View.{View, view_of, rights_of}
use Rattle.multi_site_world.specs.World.{World, account_at}
use Rattle.multi_site_world.specs.declared.event.Event.{Event}
use Rattle.multi_site_world.specs.declared.event.Event.TheVariants.{Call, Send, Take, Thin, Restart, Grow}
use Rattle.multi_site_world.specs.declared.event.WorldReply.{WorldReply}
use Rattle.multi_site_world.specs.declared.event.WorldReply.TheVariants.{Core, Sent, Restarted, Grown, NoSite, NoMessage, NoGrowth}

-- rights, seats inside and unfinished writers of record 0, as site i counts them for itself
abbrev pub seats_shown : World → ℕ → List ℕ
seats_shown w i =
    let a = account_at w i in rights_of (view_of a) 0 ∷ (inside a 0 ∷ ((own a 0 Ann - own a 0 Fin) ∷ []))

-- one record with its home at site 0
abbrev pub small_layout : ℕ → ℕ → ℕ → LayoutState
small_layout sites seats problem = record {
  sites = sites;
  records = record { name = 97 ∷ []; seats = seats; home = 0; problem = problem } ∷ [];
}

abbrev pub answered : List Reply → List WorldReply
answered [] = []
answered (reply ∷ rest) = Core reply ∷ answered rest

-- a seat is given away, is not there before the message comes, and then serves a reader
abbrev pub seat_moves : List Event
seat_moves =
    Call 0 (Give 0 1 1) ∷ Call 1 (Read 0 8) ∷ Send 0 ∷ Take 1 0 ∷ Call 1 (Read 0 8) ∷ []

abbrev pub seat_moves_replies : List WorldReply
seat_moves_replies =
    Core Given ∷ Core (Refused (NoSeat 0)) ∷ Sent 0 ∷ Core (Merged 1) ∷ Core Admitted ∷ []

-- the seats are all at home
abbrev pub seats_at_home : List Event
seats_at_home = Call 0 (Read 0 7) ∷ Call 1 (Read 0 8) ∷ []

abbrev pub seats_at_home_replies : List WorldReply
seats_at_home_replies = answered (Admitted ∷ Refused (NoSeat 0) ∷ [])

-- .. the same message again moves no seat
abbrev pub message_again : List Event
message_again = Take 1 0 ∷ Call 1 (Read 0 9) ∷ []

abbrev pub message_again_replies : List WorldReply
message_again_replies = Core (Merged 0) ∷ Core (Refused (NoSeat 0)) ∷ []

-- .. and a seat that was sent is kept by a site that grows
abbrev pub seat_grows : List Event
seat_grows = Call 0 (Give 0 1 1) ∷ Send 0 ∷ Take 1 0 ∷ Grow 1 ∷ Call 1 (Read 0 8) ∷ Call 1 (Give 0 2 1) ∷ []

abbrev pub seat_grows_replies : List WorldReply
seat_grows_replies =
    Core Given ∷ Sent 0 ∷ Core (Merged 1) ∷ Grown ∷ Core Admitted ∷ Core (Refused (TooFewRights 0)) ∷ []

-- a site grows to the whole layout at once
abbrev pub grows_whole : List Event
grows_whole = Grow 0 ∷ Grow 0 ∷ Call 0 (Give 0 2 1) ∷ []

abbrev pub grows_whole_replies : List WorldReply
grows_whole_replies = Grown ∷ NoGrowth ∷ Core Given ∷ []

-- a writer announces itself at site 1; site 0 admits a reader until it hears of it
abbrev pub writer_announced : List Event
writer_announced =
    Call 1 (Announce 0 5) ∷ Call 0 (Read 0 1) ∷ Send 1 ∷ Take 0 0 ∷ Call 0 (Read 0 2) ∷ []

abbrev pub writer_announced_replies : List WorldReply
writer_announced_replies =
    Core (Announced 1) ∷ Core Admitted ∷ Sent 0 ∷ Core (Merged 1) ∷ Core (Refused (WriterAnnounced 1)) ∷ []

-- under problem 1 the notice alone holds no reader
abbrev pub reader_not_held : List WorldReply
reader_not_held = Core (Announced 1) ∷ Core Admitted ∷ Sent 0 ∷ Core (Merged 1) ∷ Core Admitted ∷ []

-- .. then site 0 hands its seats over, twice, until the writer has them all
abbrev pub writer_helped : List Event
writer_helped =
    Call 0 (Help 0) ∷ Send 0 ∷ Take 1 1 ∷ Call 1 (Quill 0 5) ∷ Call 0 (Leave 0 1) ∷ Call 0 (Help 0) ∷ Send 0
    ∷ Take 1 2 ∷ Call 1 (Quill 0 5) ∷ []

abbrev pub writer_helped_replies : List WorldReply
writer_helped_replies =
    Core (Gave 1 2) ∷ Sent 1 ∷ Core (Merged 2) ∷ Core (Refused (MissingSeats 2 3)) ∷ Core (Left Reader)
    ∷ Core (Gave 1 1) ∷ Sent 2 ∷ Core (Merged 2) ∷ Core Admitted ∷ []

-- .. then an old message changes nothing, and after the writer the seats above the fair share go on
abbrev pub writer_done : List Event
writer_done = Take 1 1 ∷ Call 1 (Leave 0 5) ∷ Call 1 (Help 0) ∷ []

abbrev pub writer_done_replies : List WorldReply
writer_done_replies = Core (Merged 0) ∷ Core (Left Writer) ∷ Core (Gave 2 2) ∷ []

-- a restart keeps the seat that was sent, and the reader who has it
abbrev pub seat_kept : List Event
seat_kept = Restart 1 ∷ Call 1 (Read 0 9) ∷ Call 1 (Leave 0 8) ∷ Call 1 (Read 0 9) ∷ []

abbrev pub seat_kept_replies : List WorldReply
seat_kept_replies = Restarted ∷ Core (Refused (NoSeat 0)) ∷ Core (Left Reader) ∷ Core Admitted ∷ []

-- a restart forgets no site's writer
abbrev pub writer_remembered : List Event
writer_remembered =
    Call 1 (Announce 0 5) ∷ Call 0 (Read 0 1) ∷ Send 1 ∷ Take 0 0 ∷ Restart 0 ∷ Call 0 (Read 0 2) ∷ []

abbrev pub writer_remembered_replies : List WorldReply
writer_remembered_replies =
    Core (Announced 1) ∷ Core Admitted ∷ Sent 0 ∷ Core (Merged 1) ∷ Restarted ∷ Core (Refused (WriterAnnounced 1)) ∷ []

-- after the writer's three messages, a site that took none takes the last one without the rows of the second;
-- a number of no message is refused, whichever it is
abbrev pub thin_taken : List Event
thin_taken = Thin 2 2 1 ∷ Thin 2 2 1 ∷ Thin 2 3 1 ∷ Thin 2 2 3 ∷ Thin 3 2 1 ∷ []

abbrev pub thin_taken_replies : List WorldReply
thin_taken_replies = Core (Merged 3) ∷ Core (Merged 0) ∷ NoMessage ∷ NoMessage ∷ NoSite ∷ []

-- a writer withdraws: the second message differs from the first in one counter, and is told thin
abbrev pub withdrawal_thin : List Event
withdrawal_thin = Call 1 (Announce 0 5) ∷ Send 1 ∷ Take 0 0 ∷ Call 1 (Leave 0 5) ∷ Send 1 ∷ Thin 0 1 0 ∷ Thin 0 0 0 ∷ []

abbrev pub withdrawal_thin_replies : List WorldReply
withdrawal_thin_replies =
    Core (Announced 1) ∷ Sent 0 ∷ Core (Merged 1) ∷ Core (Left Waiting) ∷ Sent 1 ∷ Core (Merged 1) ∷ Core (Merged 0) ∷ []

-- the rows of the writer's record in those messages
abbrev pub told_by : ℕ → List ℕ → ℕ → ℕ → ℕ → Row
told_by s out taken ann fin = record { r = 0; s = s; out = out; taken = taken; ann = ann; fin = fin }

abbrev pub writer_row : Row
writer_row = told_by 1 (0 ∷ (0 ∷ (0 ∷ []))) 0 1 0

abbrev pub writer_helped_messages : List DeltaState
writer_helped_messages =
    record { from = 1; rows = writer_row ∷ [] }
    ∷ record { from = 0; rows = told_by 0 (3 ∷ (2 ∷ (0 ∷ []))) 1 0 0 ∷ (writer_row ∷ []) }
    ∷ record { from = 0; rows = told_by 0 (4 ∷ (3 ∷ (0 ∷ []))) 1 0 0 ∷ (writer_row ∷ []) }
    ∷ []

-- a site that begins alone knows no other one until it grows; then it takes the other's message, and gives
abbrev pub layout_grows : List Event
layout_grows =
    Call 0 (Read 0 7) ∷ Send 0 ∷ Take 1 0 ∷ Call 0 (Give 0 1 1) ∷ Call 1 (Announce 0 5) ∷ Send 1 ∷ Take 0 1
    ∷ Grow 0 ∷ Take 0 1 ∷ Call 0 (Give 0 1 1) ∷ Grow 0 ∷ Grow 2 ∷ []

abbrev pub layout_grows_replies : List WorldReply
layout_grows_replies =
    Core Admitted ∷ Sent 0 ∷ Core (Merged 1) ∷ Core (Refused NoSuchSite) ∷ Core (Announced 1) ∷ Sent 1
    ∷ Core (Refused (OtherLayout 0)) ∷ Grown ∷ Core (Merged 1) ∷ Core Given ∷ NoGrowth ∷ NoSite ∷ []

-- one site alone: a writer waits for a reader's seat, and withdraws
abbrev pub writer_withdraws : List Event
writer_withdraws =
    Call 0 (Read 0 1) ∷ Call 0 (Announce 0 2) ∷ Call 0 (Quill 0 2) ∷ Call 0 (Leave 0 2) ∷ Call 0 (Help 0) ∷ []

abbrev pub writer_withdraws_replies : List WorldReply
writer_withdraws_replies =
    answered (Admitted ∷ Announced 1 ∷ Refused (MissingSeats 0 1) ∷ Left Waiting ∷ Refused NoPlan ∷ [])

-- a book that has not heard of a reader shows all seats free, and its site may still not write
abbrev pub stale_book : List Event
stale_book = Call 1 (Announce 0 5) ∷ Call 0 (Read 0 1) ∷ Call 1 (Quill 0 5) ∷ []

abbrev pub stale_book_replies : List WorldReply
stale_book_replies = answered (Announced 1 ∷ Admitted ∷ Refused (MissingSeats 0 3) ∷ [])

-- what is refused, and why
abbrev pub refusals : List Event
refusals =
    Call 0 (Give 0 1 3) ∷ Call 0 (Give 0 1 18446744073709551615) ∷ Call 0 (Give 0 0 1) ∷ Call 0 (Give 0 1 0)
    ∷ Call 5 (Read 0 7) ∷ Take 0 9 ∷ Call 0 (Read 1 7) ∷ Call 0 (Read 0 1000000000001) ∷ Call 0 (Quill 0 7)
    ∷ Call 0 (Leave 0 7) ∷ []

abbrev pub refusals_replies : List WorldReply
refusals_replies =
    Core (Refused (TooFewRights 2)) ∷ Core (Refused CounterFull) ∷ Core (Refused ToSelf) ∷ Core (Refused ZeroSeats)
    ∷ NoSite ∷ NoMessage ∷ Core (Refused NoRecord) ∷ Core (Refused BadHolder) ∷ Core (Refused NotAnnounced)
    ∷ Core (Refused NotHere) ∷ []

-- holders 1 to n announce writers at site 1, and the next one has to wait until one of them has withdrawn
abbrev pub writers_announced : ℕ → List Event
writers_announced zero = []
writers_announced (suc n) = writers_announced n ++ Call 1 (Announce 0 (suc n)) ∷ []

abbrev pub writers_announced_replies : ℕ → List WorldReply
writers_announced_replies zero = []
writers_announced_replies (suc n) = writers_announced_replies n ++ Core (Announced (suc n)) ∷ []

abbrev pub writers_limit : List Event
writers_limit = Call 1 (Announce 0 65) ∷ Call 1 (Leave 0 1) ∷ Call 1 (Announce 0 65) ∷ []

abbrev pub writers_limit_replies : List WorldReply
writers_limit_replies = answered (Refused TooManyWriters ∷ Left Waiting ∷ Announced 65 ∷ [])

-- the message of the first script, which site 0 does not take at its start
abbrev pub seat_moves_message : DeltaState
seat_moves_message = record {
  from = 0;
  rows = record { r = 0; s = 0; out = 2 ∷ (1 ∷ []); taken = 0; ann = 0; fin = 0 } ∷ [];
}

-- three seats at two sites: a share is two, rounded up; the last site's excess goes to site 0
abbrev pub seats_shared : List Event
seats_shared =
    Call 0 (Help 0) ∷ Call 0 (Help 0) ∷ Call 0 (Give 0 1 2) ∷ Send 0 ∷ Take 1 0 ∷ Call 1 (Help 0) ∷ []

abbrev pub seats_shared_replies : List WorldReply
seats_shared_replies =
    Core (Gave 1 1) ∷ Core (Refused NoPlan) ∷ Core Given ∷ Sent 0 ∷ Core (Merged 1) ∷ Core (Gave 0 1) ∷ []

-- a row of site 0 with these counters, at a layout of two sites
abbrev pub row_at_start : ℕ → ℕ → ℕ → Row
row_at_start r ann fin = record { r = r; s = 0; out = 2 ∷ (0 ∷ []); taken = 0; ann = ann; fin = fin }

-- two rows, of which the second names no record of the layout, or no row that a site can have
abbrev pub other_layout_message : DeltaState
other_layout_message = record { from = 0; rows = row_at_start 0 0 1 ∷ (row_at_start 1 0 0 ∷ []) }

abbrev pub bad_row_message : DeltaState
bad_row_message = record { from = 0; rows = row_at_start 0 1 1 ∷ (record { r = 0; s = 1; out = 0 ∷ (0 ∷ []); taken = 0; ann = 0; fin = 1 } ∷ []) }

-- where two refusals apply, the earlier one is told; the greatest holder and the greatest hand-over are within
-- their limits
abbrev pub refusals_in_order : List Event
refusals_in_order =
    Call 0 (Give 0 1 1000000000000) ∷ Call 0 (Give 0 1 1000000000001) ∷ Call 0 (Read 0 1) ∷ Call 0 (Read 0 1)
    ∷ Call 0 (Announce 0 1) ∷ Call 0 (Quill 0 1) ∷ Call 0 (Announce 0 2) ∷ Call 0 (Read 0 1000000000000)
    ∷ Call 0 (Leave 0 1) ∷ Call 0 (Quill 0 2) ∷ Call 0 (Quill 0 2) ∷ Call 0 (Read 0 3) ∷ Call 0 (Read 0 2)
    ∷ Call 0 (Read 1 1000000000001) ∷ Call 0 (Give 0 5 0) ∷ Call 0 (Give 0 0 0) ∷ Call 0 (Give 0 1 1) ∷ Call 0 (Help 0)
    ∷ Call 0 (Leave 0 2) ∷ Call 0 (Leave 0 2) ∷ []

abbrev pub refusals_in_order_replies : List WorldReply
refusals_in_order_replies = answered (
    Refused (TooFewRights 2) ∷ Refused CounterFull ∷ Admitted ∷ Refused AlreadyHere
    ∷ Refused AlreadyHere ∷ Refused NotAnnounced ∷ Announced 1 ∷ Refused (WriterAnnounced 0)
    ∷ Left Reader ∷ Admitted ∷ Refused AlreadyInside ∷ Refused (WriterAnnounced 0) ∷ Refused AlreadyHere
    ∷ Refused NoRecord ∷ Refused NoSuchSite ∷ Refused ToSelf ∷ Refused (TooFewRights 0) ∷ Refused NoPlan
    ∷ Left Writer ∷ Refused NotHere ∷ [])

-- site 0 of two, where so many seats were taken and given back, and so many writers came and went
abbrev pub used_counters : ℕ → ℕ → ℕ → Cell → ℕ
used_counters n r s (Out j) = if (s == 0) && (j == 0) then n + 2 else 0
used_counters n r s Taken = if s == 0 then n else 0
used_counters n r s Ann = if s == 0 then n else 0
used_counters n r s Fin = if s == 0 then n else 0

abbrev pub used_site : ℕ → View
used_site n = view_of (begin (record {
  layout = small_layout 2 2 1;
  site = 0;
  base = record { counters = used_counters n; sessions = [] };
}))
