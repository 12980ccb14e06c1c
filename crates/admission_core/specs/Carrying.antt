-- What an operation needs of a site's book and sessions, and what it does to the book.
use Rattle.std.specs.Prelude.{◌≡◌, ℕ, ◌+◌, ◌<◌, ◌≤◌, ◌==◌, ◌&&◌, List, length, if◌then◌else◌, Some, None}
use Rattle.merge_core.specs.declared.cell.Cell.{Cell}
use Rattle.merge_core.specs.Book.{BookState, IsBook, book_shape, counter_of, seats_at, notices_at}
use Rattle.merge_core.specs.Transfer.{transfer_fault}
use Rattle.merge_core.specs.Seats.{taken_at, inside_of, HasSeatRights}
use Rattle.merge_core.specs.Take.{take_fault}
use Rattle.writer_notices.specs.Notices.{IsOpen, announce_fault}
use Rattle.session_list.specs.declared.session.Phase.{Phase}
use Rattle.session_list.specs.declared.session.Phase.TheVariants.{Waiting}
use Rattle.session_list.specs.declared.session.Session.{Session}
use Rattle.session_list.specs.Sessions.{phase_in}
use Rattle.admission_model.specs.declared.operation.Operation.{Operation}
use Rattle.admission_model.specs.declared.operation.Operation.TheVariants.{EnteredRead, AnnouncedWriter, EnteredWrite, LeftRecord, GaveSeats}
use Rattle.admission_model.specs.Account.{weight, writers, record_of, rise_of}

-- a record and a site of a book, and rights of the site that are not below 0
pub record IsPlaceIn (b : BookState) (r site : ℕ) : Type 0 where
  pub book : IsBook b
  pub record_there : r < length b.records
  pub site_there : site < b.sites
  pub enough : HasSeatRights (seats_at b r) site

-- a session of this phase ends, whose seats are taken and whose writer is not finished
pub record MayLeave (b : BookState) (sessions : List Session) (site seats r h : ℕ) : Type 0 where
  pub phase : Phase
  pub there : phase_in sessions r h ≡ Some phase
  pub taken : weight seats phase ≤ inside_of (seats_at b r) site
  pub unfinished : 1 ≤ writers phase → IsOpen (notices_at b r) site

-- nothing refuses the operation at a site, whose record has so many seats
abbrev pub IsAllowed : BookState → List Session → ℕ → ℕ → Operation → Type 0
IsAllowed b ss site seats (EnteredRead r h) =
    IsPlaceIn b r site × (take_fault (seats_at b r) site 1 ≡ None) × (phase_in ss r h ≡ None)
IsAllowed b ss site seats (AnnouncedWriter r h) =
    IsPlaceIn b r site × (announce_fault (notices_at b r) site ≡ None) × (phase_in ss r h ≡ None)
IsAllowed b ss site seats (EnteredWrite r h) =
    IsPlaceIn b r site × (take_fault (seats_at b r) site seats ≡ None) × (phase_in ss r h ≡ Some Waiting)
IsAllowed b ss site seats (LeftRecord r h) = IsPlaceIn b r site × MayLeave b ss site seats r h
IsAllowed b ss site seats (GaveSeats r to n) =
    IsPlaceIn b r site × (to < b.sites) × (transfer_fault (seats_at b r).matrix site to n (taken_at (seats_at b r) site) ≡ None)

-- The counters of the site's own row rise by what the operation adds, and no other counter moves.
pub record RaisesOwn (old new : BookState) (ss : List Session) (site seats : ℕ) (operation : Operation) : Type 0 where
  pub shape : book_shape new ≡ book_shape old
  pub counters : (r s : ℕ) (cell : Cell) → counter_of new r s cell
      ≡ counter_of old r s cell + (if (s == site) && (record_of operation == r) then rise_of (λ _. seats) site (phase_in ss) operation cell else 0)
