-- The reply table at one site, line by line: for each two refusals that can both apply, a state to which both do,
-- and on both sides of each limit. A state is a view, so that any counters may be asked about.
use Rattle.std.specs.Prelude.{ℕ, ◌+◌, ◌==◌, ◌&&◌, List, [], ◌∷◌, ◌++◌, map, if◌then◌else◌, Option, Some, None}
use Rattle.merge_core.specs.declared.cell.Cell.{Cell}
use Rattle.merge_core.specs.declared.cell.Cell.TheVariants.{Out, Taken, Ann, Fin}
use Rattle.merge_core.specs.declared.delta.Row.{Row}
use Rattle.merge_core.specs.Layout.{LayoutState, shape_of}
use Rattle.merge_core.specs.Rows.{start_counter}
use Rattle.admission_model.specs.declared.ask.Ask.{Ask}
use Rattle.admission_model.specs.declared.ask.Ask.TheVariants.{Read, Announce, Quill, Leave, Give, Help}
use Rattle.admission_model.specs.declared.ask.Call.{Call}
use Rattle.admission_model.specs.declared.ask.Call.TheVariants.{Ask as AskCall, Merge, Snapshot as SnapshotCall}
use Rattle.session_list.specs.declared.session.Phase.{Phase}
use Rattle.session_list.specs.declared.session.Phase.TheVariants.{Reader, Waiting, Writer}
use Rattle.admission_model.specs.declared.reply.Refusal.{Refusal}
use Rattle.admission_model.specs.declared.reply.Refusal.TheVariants.{NoRecord, BadHolder, AlreadyHere, CounterFull, WriterAnnounced, NoSeat, TooManyWriters, NotAnnounced, AlreadyInside, MissingSeats, NotHere, NoSite, ToSelf, ZeroSeats, TooFewRights, NoPlan, OtherLayout, BadRow, OwnRowAhead}
use Rattle.admission_model.specs.declared.reply.Reply.{Reply}
use Rattle.admission_model.specs.declared.reply.Reply.TheVariants.{Admitted, Announced, Left, Given, Gave, Merged, Snapshot as SnapshotReply, Refused}
use Rattle.admission_model.specs.declared.operation.Operation.TheVariants.{EnteredRead, AnnouncedWriter}
use Rattle.admission_model.specs.Account.{Account, HeardRows, begin, start_origin}
use Rattle.admission_model.specs.Knowledge.{known}
use Rattle.session_list.specs.declared.session.Session.{Session}
use Rattle.admission_model.specs.Durable.{Named, named}
use Rattle.admission_model.specs.View.{View}
use Rattle.admission_model.specs.Serving.{Step, Serves, reply_of}

-- three records of different seats, homes and problems, at three sites
abbrev pub three_records : LayoutState
three_records = record {
  sites = 3;
  records =
      record { name = 97 ∷ []; seats = 2; home = 0; problem = 1 }
      ∷ record { name = 98 ∷ []; seats = 3; home = 1; problem = 2 }
      ∷ record { name = 99 ∷ []; seats = 5; home = 2; problem = 1 }
      ∷ [];
}

-- a call at a state, and the reply that is wanted
pub record Case : Type 0 where
  pub view : View
  pub call : Call
  pub reply : Reply

abbrev pub answers : List Case → List Reply
answers cases = map (λ (c : Case). reply_of c.view c.call) cases

abbrev pub wanted : List Case → List Reply
wanted cases = map (λ (c : Case). c.reply) cases

-- site 1, with these phases and counters
abbrev pub at_one : (ℕ → ℕ → Option Phase) → (ℕ → ℕ → Cell → ℕ) → View
at_one phase counter = record { layout = three_records; site = 1; phase = phase; counter = counter }

-- everyone is in the same phase, or has none
abbrev pub everyone : Option Phase → ℕ → ℕ → Option Phase
everyone o r h = o

-- site 1's row of each record: its increments, what it gave site 0, units taken, writers announced and finished
abbrev pub own_row : ℕ → ℕ → ℕ → ℕ → ℕ → Cell → ℕ
own_row plus gave taken ann fin (Out j) = if j == 1 then plus else (if j == 0 then gave else 0)
own_row plus gave taken ann fin Taken = taken
own_row plus gave taken ann fin Ann = ann
own_row plus gave taken ann fin Fin = fin

-- counters of site 1's row alone
abbrev pub counts : ℕ → ℕ → ℕ → ℕ → ℕ → ℕ → ℕ → Cell → ℕ
counts plus gave taken ann fin r s cell = if s == 1 then own_row plus gave taken ann fin cell else 0

-- one more announced writer of each record at site s
abbrev pub with_writer : ℕ → (ℕ → ℕ → Cell → ℕ) → ℕ → ℕ → Cell → ℕ
with_writer s counter r t Ann = counter r t Ann + (if t == s then 1 else 0)
with_writer s counter r t cell = counter r t cell

-- a case of an ask
abbrev pub asked : (ℕ → ℕ → Option Phase) → (ℕ → ℕ → Cell → ℕ) → Ask → Reply → Case
asked phase counter ask reply = record { view = at_one phase counter; call = AskCall ask; reply = reply }

abbrev pub refused : (ℕ → ℕ → Option Phase) → (ℕ → ℕ → Cell → ℕ) → Ask → Refusal → Case
refused phase counter ask refusal = asked phase counter ask (Refused refusal)

-- entering as a reader
abbrev pub read_cases : List Case
read_cases =
    refused (everyone None) (counts 3 0 0 0 0) (Read 3 1000000000001) NoRecord
    ∷ refused (everyone (Some Reader)) (counts 3 0 0 0 0) (Read 2 1000000000001) BadHolder
    ∷ asked (everyone None) (counts 3 0 0 0 0) (Read 2 1000000000000) Admitted
    ∷ refused (everyone (Some Waiting)) (counts 3 0 1000000000000 0 0) (Read 1 7) AlreadyHere
    ∷ refused (everyone None) (with_writer 0 (counts 1000000000003 0 1000000000000 0 0)) (Read 1 7) CounterFull
    ∷ asked (everyone None) (counts 1000000000003 0 999999999999 0 0) (Read 1 7) Admitted
    ∷ refused (everyone None) (with_writer 2 (with_writer 1 (counts 3 0 3 0 0))) (Read 1 7) (WriterAnnounced 1)
    ∷ refused (everyone None) (with_writer 2 (counts 3 0 3 0 0)) (Read 1 7) (WriterAnnounced 2)
    ∷ asked (everyone None) (with_writer 2 (counts 3 0 2 0 0)) (Read 2 7) Admitted
    ∷ refused (everyone None) (with_writer 2 (counts 3 0 3 0 0)) (Read 2 7) (NoSeat 0)
    ∷ asked (everyone None) (counts 3 0 2 1 1) (Read 1 7) Admitted
    ∷ []

-- announcing a writer
abbrev pub announce_cases : List Case
announce_cases =
    refused (everyone None) (counts 3 0 0 0 0) (Announce 3 1000000000001) NoRecord
    ∷ refused (everyone (Some Reader)) (counts 3 0 0 0 0) (Announce 1 1000000000001) BadHolder
    ∷ asked (everyone None) (counts 3 0 0 0 0) (Announce 1 1000000000000) (Announced 1)
    ∷ refused (everyone (Some Writer)) (counts 3 0 0 1000000000000 1000000000000) (Announce 1 7) AlreadyHere
    ∷ refused (everyone None) (counts 3 0 0 1000000000000 999999999936) (Announce 1 7) CounterFull
    ∷ asked (everyone None) (counts 3 0 0 999999999999 999999999999) (Announce 1 7) (Announced 1000000000000)
    ∷ refused (everyone None) (counts 3 0 0 64 0) (Announce 1 7) TooManyWriters
    ∷ asked (everyone None) (counts 3 0 0 63 0) (Announce 1 7) (Announced 64)
    ∷ asked (everyone None) (counts 3 0 0 64 1) (Announce 1 7) (Announced 65)
    ∷ []

-- entering as the announced writer
abbrev pub write_cases : List Case
write_cases =
    refused (everyone None) (counts 3 0 0 0 0) (Quill 3 1000000000001) NoRecord
    ∷ refused (everyone None) (counts 3 0 0 0 0) (Quill 1 1000000000001) BadHolder
    ∷ asked (everyone (Some Waiting)) (counts 3 0 0 1 0) (Quill 1 1000000000000) Admitted
    ∷ refused (everyone None) (counts 3 0 1000000000000 0 0) (Quill 1 7) NotAnnounced
    ∷ refused (everyone (Some Reader)) (counts 3 0 1000000000000 0 0) (Quill 1 7) NotAnnounced
    ∷ refused (everyone (Some Writer)) (counts 3 0 1000000000000 1 0) (Quill 1 7) AlreadyInside
    ∷ refused (everyone (Some Waiting)) (counts 999999999998 0 999999999998 1 0) (Quill 1 7) CounterFull
    ∷ asked (everyone (Some Waiting)) (counts 1000000000000 0 999999999997 1 0) (Quill 1 7) Admitted
    ∷ refused (everyone (Some Waiting)) (counts 3 0 1 1 0) (Quill 1 7) (MissingSeats 2 3)
    ∷ refused (everyone (Some Waiting)) (counts 5 0 1 1 0) (Quill 2 7) (MissingSeats 4 5)
    ∷ asked (everyone (Some Waiting)) (counts 6 0 1 1 0) (Quill 2 7) Admitted
    ∷ []

-- leaving
abbrev pub leave_cases : List Case
leave_cases =
    refused (everyone None) (counts 3 0 0 0 0) (Leave 3 1000000000001) NoRecord
    ∷ refused (everyone None) (counts 3 0 0 0 0) (Leave 1 1000000000001) BadHolder
    ∷ refused (everyone None) (counts 3 0 0 0 0) (Leave 1 1000000000000) NotHere
    ∷ asked (everyone (Some Reader)) (counts 3 0 1 0 0) (Leave 2 1000000000000) (Left Reader)
    ∷ asked (everyone (Some Waiting)) (counts 3 0 0 1 0) (Leave 1 7) (Left Waiting)
    ∷ asked (everyone (Some Writer)) (counts 3 0 3 1 0) (Leave 1 7) (Left Writer)
    ∷ []

-- moving seats
abbrev pub give_cases : List Case
give_cases =
    refused (everyone None) (counts 3 0 0 0 0) (Give 3 3 1) NoRecord
    ∷ refused (everyone None) (counts 3 0 0 0 0) (Give 1 3 0) NoSite
    ∷ asked (everyone None) (counts 3 0 0 0 0) (Give 2 2 1) Given
    ∷ refused (everyone None) (counts 3 0 0 0 0) (Give 1 1 0) ToSelf
    ∷ refused (everyone None) (counts 3 1000000000001 0 0 0) (Give 1 0 0) ZeroSeats
    ∷ refused (everyone None) (counts 3 1 0 0 0) (Give 1 0 1000000000000) CounterFull
    ∷ refused (everyone None) (counts 3 0 1 0 0) (Give 1 0 1000000000000) (TooFewRights 2)
    ∷ asked (everyone None) (counts 1000000000002 999999999999 0 0 0) (Give 1 0 1) Given
    ∷ refused (everyone None) (counts 1000000000002 1000000000000 0 0 0) (Give 1 0 1) CounterFull
    ∷ asked (everyone None) (counts 3 0 1 0 0) (Give 1 0 2) Given
    ∷ refused (everyone None) (counts 3 0 1 0 0) (Give 1 0 3) (TooFewRights 2)
    ∷ []

-- carrying out the plan: all rights go to the least site with a writer, unless it is the site itself; without
-- a writer, what is above the share goes to the next site
abbrev pub help_cases : List Case
help_cases =
    refused (everyone None) (counts 0 0 0 0 0) (Help 3) NoRecord
    ∷ refused (everyone None) (counts 1000000000001 1000000000001 0 0 0) (Help 1) NoPlan
    ∷ refused (everyone None) (with_writer 0 (counts 1000000000001 1000000000000 0 0 0)) (Help 1) CounterFull
    ∷ asked (everyone None) (with_writer 0 (counts 1000000000000 999999999999 0 0 0)) (Help 1) (Gave 0 1)
    ∷ refused (everyone None) (with_writer 1 (counts 3 0 0 0 0)) (Help 1) NoPlan
    ∷ refused (everyone None) (with_writer 2 (with_writer 1 (counts 3 0 0 0 0))) (Help 1) NoPlan
    ∷ asked (everyone None) (with_writer 2 (counts 3 0 0 0 0)) (Help 1) (Gave 2 3)
    ∷ asked (everyone None) (with_writer 2 (counts 5 0 0 0 0)) (Help 0) (Gave 2 5)
    ∷ refused (everyone None) (with_writer 2 (counts 3 0 3 0 0)) (Help 1) NoPlan
    ∷ asked (everyone None) (counts 3 0 0 0 0) (Help 1) (Gave 2 2)
    ∷ refused (everyone None) (counts 3 0 2 0 0) (Help 1) NoPlan
    ∷ asked (everyone None) (counts 3 0 0 0 0) (Help 2) (Gave 2 1)
    ∷ refused (everyone None) (counts 2 0 0 0 0) (Help 2) NoPlan
    ∷ []

-- a row of a record at a site
abbrev pub row_with : ℕ → ℕ → List ℕ → ℕ → ℕ → ℕ → Row
row_with r s out taken ann fin = record { r = r; s = s; out = out; taken = taken; ann = ann; fin = fin }

-- a delta told to site 1 at its start
abbrev pub told_at_start : List Row → Reply → Case
told_at_start rows reply = record {
  view = at_one (everyone None) (start_counter (shape_of three_records));
  call = Merge (record { from = 0; rows = rows });
  reply = reply;
}

-- a row of site 0 for record 0, which starts with two seats
abbrev pub row_of_home : List ℕ → ℕ → ℕ → ℕ → Row
row_of_home out taken ann fin = row_with 0 0 out taken ann fin

abbrev pub three : ℕ → ℕ → ℕ → List ℕ
three a b c = a ∷ (b ∷ (c ∷ []))

-- which rows are refused, and why
abbrev pub merge_cases : List Case
merge_cases =
    told_at_start (row_with 3 0 (three 0 0 0) 0 0 1 ∷ []) (Refused (OtherLayout 0))
    ∷ told_at_start (row_of_home (three 2 0 0) 0 0 1 ∷ (row_with 0 3 (three 0 0 0) 0 0 0 ∷ [])) (Refused (OtherLayout 1))
    ∷ told_at_start (row_with 1 1 (2 ∷ (9 ∷ (0 ∷ (0 ∷ [])))) 0 0 0 ∷ []) (Refused (OtherLayout 0))
    ∷ told_at_start (row_with 0 1 (0 ∷ []) 0 0 0 ∷ []) (Refused (OtherLayout 0))
    ∷ told_at_start (row_of_home (2 ∷ []) 1 0 0 ∷ []) (Merged 1)
    ∷ told_at_start (row_of_home (three 2 0 0) 0 1 1 ∷ (row_with 1 1 (three 0 4 0) 0 0 0 ∷ [])) (Refused (BadRow 1))
    ∷ told_at_start (row_of_home (three 1 0 0) 0 0 0 ∷ []) (Refused (BadRow 0))
    ∷ told_at_start (row_of_home (three 4 0 0) 1 0 0 ∷ []) (Refused (BadRow 0))
    ∷ told_at_start (row_of_home (three 4 0 0) 2 0 0 ∷ []) (Merged 2)
    ∷ told_at_start (row_of_home (three 2 0 0) 1000000000001 0 0 ∷ []) (Refused (BadRow 0))
    ∷ told_at_start (row_of_home (three 2 0 0) 1000000000000 0 0 ∷ []) (Merged 1)
    ∷ told_at_start (row_of_home (three 2 1000000000001 0) 0 0 0 ∷ []) (Refused (BadRow 0))
    ∷ told_at_start (row_of_home (three 2 1000000000000 0) 0 0 0 ∷ []) (Merged 1)
    ∷ told_at_start (row_of_home (three 1000000000002 0 0) 1000000000000 0 0 ∷ []) (Merged 2)
    ∷ told_at_start (row_of_home (three 2 0 0) 0 1 2 ∷ []) (Refused (BadRow 0))
    ∷ told_at_start (row_of_home (three 2 0 0) 0 1000000000001 0 ∷ []) (Refused (BadRow 0))
    ∷ told_at_start (row_of_home (three 2 0 0) 0 1000000000000 1000000000000 ∷ []) (Merged 2)
    ∷ told_at_start (row_with 1 1 (three 0 3 1) 0 0 0 ∷ (row_with 2 1 (three 0 0 0) 1 0 0 ∷ [])) (Refused (OwnRowAhead 1))
    ∷ told_at_start (row_with 2 1 (three 0 0 0) 0 1 0 ∷ []) (Refused (OwnRowAhead 2))
    ∷ told_at_start (row_with 1 1 (three 0 3 0) 0 0 0 ∷ (row_with 2 2 (three 0 1 5) 0 1 1 ∷ [])) (Merged 3)
    ∷ []

-- the counters of one site's row of one record, and 0 in any other row
abbrev pub at_row : ℕ → ℕ → (Cell → ℕ) → ℕ → ℕ → Cell → ℕ
at_row r0 s0 row r s cell = if (r == r0) && (s == s0) then row cell else 0

-- what a site tells: its number, and the rows that have left their start, by record and then by site
abbrev pub snapshot_cases : List Case
snapshot_cases =
    record { view = at_one (everyone None) (start_counter (shape_of three_records)); call = SnapshotCall; reply = SnapshotReply (record { from = 1; rows = [] }) }
    ∷ record {
      view = at_one (everyone None) (λ r s cell. start_counter (shape_of three_records) r s cell + at_row 2 1 (own_row 0 1 0 1 0) r s cell);
      call = SnapshotCall;
      reply = SnapshotReply (record { from = 1; rows = row_with 2 1 (three 1 0 0) 0 1 0 ∷ [] });
    }
    ∷ []

-- calls at one site, newest first
abbrev pub asks : List Ask → List Step
asks [] = []
asks (ask ∷ rest) = Serves (AskCall ask) ∷ asks rest

-- site 1, which began with a reader of record 2 and a waiting writer of record 1
abbrev pub begun : Account
begun = begin (record {
  layout = three_records;
  site = 1;
  base = record {
    counters = λ r s cell.
        start_counter (shape_of three_records) r s cell
        + at_row 2 1 (own_row 0 0 1 0 0) r s cell
        + at_row 1 1 (own_row 0 0 0 1 0) r s cell
        + at_row 2 2 (own_row 2 0 0 0 0) r s cell;
    sessions = record { r = 2; h = 9; phase = Reader } ∷ (record { r = 1; h = 4; phase = Waiting } ∷ []);
  };
})

-- a reader arrives, a second one does, the first writer enters and the reader of the base comes again; the
-- newest ask stands first
abbrev pub comings : List Ask
comings = Read 2 9 ∷ (Leave 2 9 ∷ (Quill 1 4 ∷ (Announce 2 6 ∷ (Read 2 9 ∷ []))))

-- who came again goes last, the writer keeps its place, and the base comes first
abbrev pub comings_order : List Session
comings_order = record { r = 1; h = 4; phase = Writer } ∷ (record { r = 2; h = 6; phase = Waiting } ∷ (record { r = 2; h = 9; phase = Reader } ∷ []))

-- slots of site 1 of three, and the first and the last of each kind at site 15 of sixteen
abbrev pub slots_asked : List (Option Named)
slots_asked =
    map (named 3 1) (0 ∷ (1 ∷ (2 ∷ (3 ∷ (99 ∷ (100 ∷ (101 ∷ (102 ∷ (103 ∷ (200 ∷ (201 ∷ (202 ∷ (203 ∷ (300 ∷ (301 ∷ (302 ∷ (303 ∷ (400 ∷ (401 ∷ (402 ∷ (403 ∷ [])))))))))))))))))))))
    ++ map (named 16 15) (15 ∷ (16 ∷ (114 ∷ (115 ∷ (314 ∷ (315 ∷ (414 ∷ (415 ∷ []))))))))

-- a counter that is named
abbrev pub names : ℕ → Cell → Option Named
names s cell = Some (record { s = s; cell = cell })

abbrev pub slots_wanted : List (Option Named)
slots_wanted =
    names 1 (Out 0) ∷ (names 1 (Out 1) ∷ (names 1 (Out 2) ∷ (None ∷ (None ∷ (names 0 (Out 1) ∷ (None ∷ (names 2 (Out 1) ∷ (None
    ∷ (names 1 Taken ∷ (names 1 Ann ∷ (names 1 Fin ∷ (None ∷ (names 0 Ann ∷ (None ∷ (names 2 Ann ∷ (None
    ∷ (names 0 Fin ∷ (None ∷ (names 2 Fin ∷ (None
    ∷ (names 15 (Out 15) ∷ (None ∷ (names 14 (Out 15) ∷ (None ∷ (names 14 Ann ∷ (None ∷ (names 14 Fin ∷ (None ∷ []))))))))))))))))))))))))))))

-- two records at two sites
abbrev pub two_records : LayoutState
two_records = record {
  sites = 2;
  records = record { name = 97 ∷ []; seats = 2; home = 0; problem = 1 } ∷ (record { name = 98 ∷ []; seats = 3; home = 1; problem = 2 } ∷ []);
}

-- what site 0 tells of both
abbrev pub told_rows : List Row
told_rows = row_with 0 0 (5 ∷ (1 ∷ [])) 2 4 3 ∷ (row_with 1 0 (1 ∷ (2 ∷ [])) 1 2 1 ∷ [])

-- site 1, where a reader entered record 0 and a writer waits at record 1, and which heard site 0
abbrev pub well_informed : Account
well_informed = record {
  origin = start_origin two_records 1;
  sites = 2;
  done = AnnouncedWriter 1 7 ∷ (EnteredRead 0 5 ∷ []);
  heard = HeardRows told_rows ∷ [];
}

-- the known counters of a row: rights made, or sent to sites 0 to 2, seats taken, writers announced and finished
abbrev pub known_row : Account → ℕ → ℕ → List ℕ
known_row a r s = map (known a r s) (Out 0 ∷ (Out 1 ∷ (Out 2 ∷ (Taken ∷ (Ann ∷ (Fin ∷ []))))))

-- the rows of both records at three sites
abbrev pub known_rows : Account → List (List ℕ)
known_rows a =
    map (known_row a 0) (0 ∷ (1 ∷ (2 ∷ [])))
    ++ map (known_row a 1) (0 ∷ (1 ∷ (2 ∷ [])))

abbrev pub six : ℕ → ℕ → ℕ → ℕ → ℕ → ℕ → List ℕ
six a b c d e f = a ∷ (b ∷ (c ∷ (d ∷ (e ∷ (f ∷ [])))))

-- what is known before a restart, and what after one: site 0's rights and seats are forgotten, what it sent here is
-- not, and neither are its writers nor the own rows
abbrev pub known_before : List (List ℕ)
known_before =
    six 5 1 0 2 4 3 ∷ (six 0 0 0 1 0 0 ∷ (six 0 0 0 0 0 0
    ∷ (six 1 2 0 1 2 1 ∷ (six 0 3 0 0 1 0 ∷ (six 0 0 0 0 0 0 ∷ [])))))

abbrev pub known_after : List (List ℕ)
known_after =
    six 2 1 0 0 4 3 ∷ (six 0 0 0 1 0 0 ∷ (six 0 0 0 0 0 0
    ∷ (six 0 2 0 0 2 1 ∷ (six 0 3 0 0 1 0 ∷ (six 0 0 0 0 0 0 ∷ [])))))

-- the sessions, which a restart keeps
abbrev pub two_sessions : List Session
two_sessions = record { r = 0; h = 5; phase = Reader } ∷ (record { r = 1; h = 7; phase = Waiting } ∷ [])
