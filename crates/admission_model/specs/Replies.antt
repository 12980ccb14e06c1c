-- The reply table: for each call its refusals in order, each with its test. The first that applies is
-- answered; where none does, the call is carried out. (The rules of admission are those of Courtois,
-- Heymans and Parnas, 1971, with waiting told as a refusal; those on seats are the bounded counter's.)
use Rattle.std.specs.Prelude.{ℕ, ◌+◌, ◌==◌, ◌&&◌, Bool, true, false, nat_lt, nat_le, List, [], ◌∷◌, length, is_some, is_none, unwrap_or, if◌then◌else◌, Option, Some, None}
use Rattle.merge_core.specs.declared.cell.Cell.TheVariants.{Out, Taken, Ann, Fin}
use Rattle.merge_core.specs.Delta.{DeltaState}
use Rattle.merge_core.specs.Counts.{counter_limit}
use Rattle.merge_core.specs.Notices.{most_writers}
use Rattle.admission_model.specs.declared.ask.Ask.{Ask}
use Rattle.admission_model.specs.declared.ask.Ask.TheVariants.{Read, Announce, Quill, Leave, Give, Help}
use Rattle.session_list.specs.declared.session.Phase.{Phase}
use Rattle.session_list.specs.declared.session.Phase.TheVariants.{Reader, Waiting, Writer}
use Rattle.admission_model.specs.declared.reply.Plan.{Plan}
use Rattle.admission_model.specs.declared.reply.Refusal.{Refusal}
use Rattle.admission_model.specs.declared.reply.Refusal.TheVariants.{NoRecord, BadHolder, AlreadyHere, CounterFull, WriterAnnounced, NoSeat, TooManyWriters, NotAnnounced, AlreadyInside, MissingSeats, NotHere, NoSite, ToSelf, ZeroSeats, TooFewRights, NoPlan, OtherLayout, BadRow, OwnRowAhead}
use Rattle.admission_model.specs.Account.{seats_in}
use Rattle.admission_model.specs.View.{View, problem_in, rights_of, first_unfinished, plan_of}
use Rattle.merge_core.specs.Layout.{shape_of}
use Rattle.merge_core.specs.Tests.{is_placed, is_valid, first_failing}
use Rattle.admission_model.specs.Merging.{first_ahead}

-- a line of the table: where the test is true, the call is refused
pub record Line : Type 0 where
  pub test : Bool
  pub refusal : Refusal

-- a line of this test and this refusal
abbrev pub line : Bool → Refusal → Line
line test refusal = record { test = test; refusal = refusal }

-- the first line that applies
abbrev pub first_reason : List Line → Option Refusal
first_reason [] = None
first_reason (l ∷ ls) = if l.test then Some l.refusal else first_reason ls

-- the greatest number of a holder
abbrev pub holder_limit : ℕ
holder_limit = 1000000000000

-- the layout has no such record
abbrev pub no_record_there : View → ℕ → Bool
no_record_there v r = nat_le (length v.layout.records) r

-- the phase is none, or a reader's
abbrev pub is_not_announced : Option Phase → Bool
is_not_announced None = true
is_not_announced (Some Reader) = true
is_not_announced (Some Waiting) = false
is_not_announced (Some Writer) = false

-- the phase is a writer's
abbrev pub is_writer : Option Phase → Bool
is_writer None = false
is_writer (Some Reader) = false
is_writer (Some Waiting) = false
is_writer (Some Writer) = true

-- a plan's site and seats; without a plan both are 0
abbrev pub planned : Option Plan → Plan
planned plan = unwrap_or plan (record { to = 0; seats = 0 })

-- under problem 2 a known unfinished writer goes before new readers
abbrev pub must_wait : View → ℕ → Bool
must_wait v r = (problem_in v.layout r == 2) && is_some (first_unfinished v r)

-- a reader enters
abbrev pub read_lines : View → ℕ → ℕ → List Line
read_lines v r h =
    line (no_record_there v r) NoRecord
    ∷ line (nat_lt holder_limit h) BadHolder
    ∷ line (is_some (v.phase r h)) AlreadyHere
    ∷ line (nat_lt counter_limit (v.counter r v.site Taken + 1)) CounterFull
    ∷ line (must_wait v r) (WriterAnnounced (unwrap_or (first_unfinished v r) 0))
    ∷ line (rights_of v r == 0) (NoSeat (rights_of v r))
    ∷ []

-- a writer announces itself
abbrev pub announce_lines : View → ℕ → ℕ → List Line
announce_lines v r h =
    line (no_record_there v r) NoRecord
    ∷ line (nat_lt holder_limit h) BadHolder
    ∷ line (is_some (v.phase r h)) AlreadyHere
    ∷ line (nat_lt counter_limit (v.counter r v.site Ann + 1)) CounterFull
    ∷ line (nat_le (v.counter r v.site Fin + most_writers) (v.counter r v.site Ann)) TooManyWriters
    ∷ []

-- an announced writer enters: it needs all seats of the record
abbrev pub write_lines : View → ℕ → ℕ → List Line
write_lines v r h =
    line (no_record_there v r) NoRecord
    ∷ line (nat_lt holder_limit h) BadHolder
    ∷ line (is_not_announced (v.phase r h)) NotAnnounced
    ∷ line (is_writer (v.phase r h)) AlreadyInside
    ∷ line (nat_lt counter_limit (v.counter r v.site Taken + seats_in v.layout r)) CounterFull
    ∷ line (nat_lt (rights_of v r) (seats_in v.layout r)) (MissingSeats (rights_of v r) (seats_in v.layout r))
    ∷ []

-- a holder leaves, or withdraws its writer
abbrev pub leave_lines : View → ℕ → ℕ → List Line
leave_lines v r h =
    line (no_record_there v r) NoRecord
    ∷ line (nat_lt holder_limit h) BadHolder
    ∷ line (is_none (v.phase r h)) NotHere
    ∷ []

-- seats are moved to another site
abbrev pub give_lines : View → ℕ → ℕ → ℕ → List Line
give_lines v r to seats =
    line (no_record_there v r) NoRecord
    ∷ line (nat_le v.layout.sites to) NoSite
    ∷ line (to == v.site) ToSelf
    ∷ line (seats == 0) ZeroSeats
    ∷ line (nat_lt counter_limit (v.counter r v.site (Out to) + seats)) CounterFull
    ∷ line (nat_lt (rights_of v r) seats) (TooFewRights (rights_of v r))
    ∷ []

-- the plan is carried out
abbrev pub help_lines : View → ℕ → List Line
help_lines v r =
    let plan = planned (plan_of v r) in
    line (no_record_there v r) NoRecord
    ∷ line (is_none (plan_of v r)) NoPlan
    ∷ line (nat_lt counter_limit (v.counter r v.site (Out plan.to) + plan.seats)) CounterFull
    ∷ []

-- a delta is merged: all of its rows, or none
abbrev pub merge_lines : View → DeltaState → List Line
merge_lines v d =
    let misplaced = first_failing (is_placed (shape_of v.layout)) d.rows in
    let invalid = first_failing (is_valid (shape_of v.layout)) d.rows in
    line (is_some misplaced) (OtherLayout (unwrap_or misplaced 0))
    ∷ line (is_some invalid) (BadRow (unwrap_or invalid 0))
    ∷ line (is_some (first_ahead v d.rows)) (OwnRowAhead (unwrap_or (first_ahead v d.rows) 0))
    ∷ []

-- the lines of what a caller asks
abbrev pub ask_lines : View → Ask → List Line
ask_lines v (Read r h) = read_lines v r h
ask_lines v (Announce r h) = announce_lines v r h
ask_lines v (Quill r h) = write_lines v r h
ask_lines v (Leave r h) = leave_lines v r h
ask_lines v (Give r to seats) = give_lines v r to seats
ask_lines v (Help r) = help_lines v r
