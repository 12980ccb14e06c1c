-- The account of a site: where it began, what it did, and what it was told. Phases, the order of arrival
-- and the site's own counters are read off the account; nothing is stored twice.
use Rattle.std.specs.Prelude.{ℕ, ◌+◌, ◌==◌, Bool, ◌&&◌, List, [], ◌∷◌, ◌++◌, map, if◌then◌else◌, Option, Some, None, slice_index_or}
use Rattle.merge_core.specs.declared.cell.Cell.{Cell}
use Rattle.merge_core.specs.declared.cell.Cell.TheVariants.{Out, Taken, Ann, Fin}
use Rattle.merge_core.specs.declared.delta.Row.{Row}
use Rattle.merge_core.specs.Layout.{LayoutState, shape_of, at_sites}
use Rattle.merge_core.specs.Rows.{start_counter, no_record}
use Rattle.session_list.specs.declared.session.Phase.{Phase}
use Rattle.session_list.specs.declared.session.Phase.TheVariants.{Reader, Waiting, Writer}
use Rattle.session_list.specs.declared.session.Session.{Session}
use Rattle.session_list.specs.Sessions.{phase_in}
use Rattle.admission_model.specs.declared.operation.Operation.{Operation}
use Rattle.admission_model.specs.declared.operation.Operation.TheVariants.{EnteredRead, AnnouncedWriter, EnteredWrite, LeftRecord, GaveSeats}

-- what a stop leaves of a site: counters by record, site and cell, and the sessions in order of arrival
pub record DurablePart : Type 0 where
  pub counters : ℕ → ℕ → Cell → ℕ
  pub sessions : List Session

-- what changed the site's picture of the others: a delta's rows, or a restart
pub data Heard : Type 0 where
  HeardRows : (rows : List Row) → Heard
  StartedAgain : Heard

-- where an account begins: the layout that the site knows then, its number, and its durable part
pub record Origin : Type 0 where
  pub layout : LayoutState
  pub site : ℕ
  pub base : DurablePart

-- an account: where it began, how many sites it knows by now, and what was done and heard, newest first
pub record Account : Type 0 where
  pub origin : Origin
  pub sites : ℕ
  pub done : List Operation
  pub heard : List Heard

-- the layout that the account knows by now: growth adds sites, and changes no record
abbrev pub layout_of : Account → LayoutState
layout_of a = at_sites a.sites a.origin.layout

-- the seats of a record; one that is not there has none
abbrev pub seats_in : LayoutState → ℕ → ℕ
seats_in layout r = (slice_index_or (shape_of layout).records r no_record).seats

-- the start: the grants, and nobody inside
abbrev pub start_origin : LayoutState → ℕ → Origin
start_origin layout i =
    record { layout = layout; site = i; base = record { counters = start_counter (shape_of layout); sessions = [] } }

-- the account that begins there
abbrev pub begin : Origin → Account
begin o = record { origin = o; sites = o.layout.sites; done = []; heard = [] }

-- Seats taken at a record (the weights of readers and writers are the project's own: the value that the
-- bounded counter of Balegas et al., 2015, keeps from falling below 0 is the number of free seats)
abbrev pub weight : ℕ → Phase → ℕ
weight seats Reader = 1
weight seats Waiting = 0
weight seats Writer = seats

-- writers that have announced themselves and not finished (Courtois, Heymans and Parnas, 1971)
abbrev pub writers : Phase → ℕ
writers Reader = 0
writers Waiting = 1
writers Writer = 1

-- what a phase counts for; no session counts for nothing
abbrev pub on_phase : (Phase → ℕ) → Option Phase → ℕ
on_phase value None = 0
on_phase value (Some p) = value p

-- the same record and holder
abbrev pub is_key : ℕ → ℕ → ℕ → ℕ → Bool
is_key r h r2 h2 = (r == r2) && (h == h2)

-- the phase of a holder at a record: the last operation that names both decides it
abbrev pub phase_after : Origin → List Operation → ℕ → ℕ → Option Phase
phase_after o [] r h = phase_in o.base.sessions r h
phase_after o (EnteredRead r2 h2 ∷ done) r h = if is_key r2 h2 r h then Some Reader else phase_after o done r h
phase_after o (AnnouncedWriter r2 h2 ∷ done) r h = if is_key r2 h2 r h then Some Waiting else phase_after o done r h
phase_after o (EnteredWrite r2 h2 ∷ done) r h = if is_key r2 h2 r h then Some Writer else phase_after o done r h
phase_after o (LeftRecord r2 h2 ∷ done) r h = if is_key r2 h2 r h then None else phase_after o done r h
phase_after o (GaveSeats r2 to seats ∷ done) r h = phase_after o done r h

-- a holder at a record
pub record Key : Type 0 where
  pub r : ℕ
  pub h : ℕ

-- who a session is of
abbrev pub key_of : Session → Key
key_of s = record { r = s.r; h = s.h }

-- a list without one holder at one record
abbrev pub keys_without : ℕ → ℕ → List Key → List Key
keys_without r h [] = []
keys_without r h (k ∷ ks) = if is_key r h k.r k.h then keys_without r h ks else (k ∷ keys_without r h ks)

-- how often a holder stands at a record in a list
abbrev pub occurs : ℕ → ℕ → List Key → ℕ
occurs r h [] = 0
occurs r h (k ∷ ks) = (if is_key r h k.r k.h then 1 else 0) + occurs r h ks

-- everyone who ever arrived, by their last arrival
abbrev pub arrivals : Origin → List Operation → List Key
arrivals o [] = map key_of o.base.sessions
arrivals o (EnteredRead r h ∷ done) = keys_without r h (arrivals o done) ++ record { r = r; h = h } ∷ []
arrivals o (AnnouncedWriter r h ∷ done) = keys_without r h (arrivals o done) ++ record { r = r; h = h } ∷ []
arrivals o (EnteredWrite r h ∷ done) = arrivals o done
arrivals o (LeftRecord r h ∷ done) = arrivals o done
arrivals o (GaveSeats r to seats ∷ done) = arrivals o done

-- a holder with a phase has a session
abbrev pub session_if : Key → Option Phase → List Session → List Session
session_if k None rest = rest
session_if k (Some p) rest = record { r = k.r; h = k.h; phase = p } ∷ rest

-- the sessions of those in a list who have a phase
abbrev pub present : (ℕ → ℕ → Option Phase) → List Key → List Session
present phase [] = []
present phase (k ∷ ks) = session_if k (phase k.r k.h) (present phase ks)

-- the sessions of a site, in order of arrival
abbrev pub sessions_after : Origin → List Operation → List Session
sessions_after o done = present (phase_after o done) (arrivals o done)

-- a sum over the sessions at a record
abbrev pub session_total : (Phase → ℕ) → ℕ → List Session → ℕ
session_total value r [] = 0
session_total value r (s ∷ ss) = (if s.r == r then value s.phase else 0) + session_total value r ss

-- the record of an operation
abbrev pub record_of : Operation → ℕ
record_of (EnteredRead r h) = r
record_of (AnnouncedWriter r h) = r
record_of (EnteredWrite r h) = r
record_of (LeftRecord r h) = r
record_of (GaveSeats r to seats) = r

-- By how much an operation raises a counter of its site's own row at its record, given the seats of records,
-- the site, and the phases before it: entering takes seats, leaving gives them back on the diagonal, a
-- hand-over counts for its receiver (the bounded counter's decrement, increment and transfer, Balegas et al.,
-- 2015); a writer is counted when it announces itself and when it leaves.
abbrev pub rise_of : (ℕ → ℕ) → ℕ → (ℕ → ℕ → Option Phase) → Operation → Cell → ℕ
rise_of seats site phase (EnteredRead r h) Taken = weight (seats r) Reader
rise_of seats site phase (EnteredWrite r h) Taken = weight (seats r) Writer
rise_of seats site phase (LeftRecord r h) (Out j) = if j == site then on_phase (weight (seats r)) (phase r h) else 0
rise_of seats site phase (LeftRecord r h) Fin = on_phase writers (phase r h)
rise_of seats site phase (AnnouncedWriter r h) Ann = 1
rise_of seats site phase (GaveSeats r to n) (Out j) = if j == to then n else 0
rise_of seats site phase operation cell = 0

-- the counters of the site's own row: those that it began with, and what its operations added
abbrev pub own_after : Origin → List Operation → ℕ → Cell → ℕ
own_after o [] r cell = o.base.counters r o.site cell
own_after o (operation ∷ done) r cell =
    own_after o done r cell + (if record_of operation == r then rise_of (seats_in o.layout) o.site (phase_after o done) operation cell else 0)

-- the phase of a holder at a record, of an account
abbrev pub phase_of : Account → ℕ → ℕ → Option Phase
phase_of a r h = phase_after a.origin a.done r h

-- its sessions, in order of arrival
abbrev pub sessions_of : Account → List Session
sessions_of a = sessions_after a.origin a.done

-- its own counters
abbrev pub own : Account → ℕ → Cell → ℕ
own a r cell = own_after a.origin a.done r cell

-- the seats that readers and writers of a record take at the site
abbrev pub inside : Account → ℕ → ℕ
inside a r = session_total (weight (seats_in a.origin.layout r)) r (sessions_of a)

-- the writers of a record that wait or write at the site
abbrev pub writers_here : Account → ℕ → ℕ
writers_here a r = session_total writers r (sessions_of a)
