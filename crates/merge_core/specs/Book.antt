-- The book: for each record, what a site knows of all sites' seats and writers.
use Rattle.std.specs.Prelude.{◌≡◌, ℕ, ◌+◌, ◌<◌, ◌≤◌, List, [], ◌∷◌, length, map, slice_index, slice_index_or, slice_set}
use Rattle.rights_matrix.specs.Matrix.{site_count, row_of}
use Rattle.seat_rows.specs.Seats.{SeatState, taken_at, IsSeatState, seat_rises}
use Rattle.writer_notices.specs.Notices.{NoticeState, IsNotices, notice_rises}
use Rattle.merge_core.specs.declared.cell.Cell.{Cell}
use Rattle.merge_core.specs.declared.cell.Cell.TheVariants.{Out, Taken, Ann, Fin}
use Rattle.merge_core.specs.declared.record.RecordState.{RecordState}
use Rattle.merge_core.specs.Layout.{Shape, RecordShape}
use Rattle.merge_core.specs.Rows.{RowCounters, counter_in}
use Rattle.merge_core.specs.Naming.{ReachesUnit}

-- a book as contracts see it: the number of sites, and what is known of each record
pub record BookState : Type 0 where
  pub sites : ℕ
  pub records : List RecordState

-- a record that is not there: no seats and no sites
abbrev pub nothing_known : RecordState
nothing_known = record {
  seats = record { matrix = record { home = 0; seats = 0; rows = [] }; taken = [] };
  notices = record { announced = []; finished = [] };
}

abbrev pub record_at : BookState → ℕ → RecordState
record_at b r = slice_index_or b.records r nothing_known

abbrev pub seats_at : BookState → ℕ → SeatState
seats_at b r = (record_at b r).seats

abbrev pub notices_at : BookState → ℕ → NoticeState
notices_at b r = (record_at b r).notices

-- the row of site s: its counters, of which each is 0 where there is no such site
abbrev pub row_in : RecordState → ℕ → RowCounters
row_in st s = record {
  out = row_of st.seats.matrix s;
  taken = taken_at st.seats s;
  ann = slice_index st.notices.announced s;
  fin = slice_index st.notices.finished s;
}

-- one counter of a book; one that is not there is 0
abbrev pub counter_of : BookState → ℕ → ℕ → Cell → ℕ
counter_of b r s cell = counter_in (row_in (record_at b r) s) cell

-- a book names the k-th operation of a counter
abbrev pub Names : BookState → ℕ → ℕ → Cell → ℕ → Type 0
Names b r s cell k = ReachesUnit (counter_of b r s cell) k

abbrev pub shape_in : RecordState → RecordShape
shape_in st = record { seats = st.seats.matrix.seats; home = st.seats.matrix.home }

-- what of the layout decides the book's counters
abbrev pub book_shape : BookState → Shape
book_shape b = record { sites = b.sites; records = map shape_in b.records }

-- the row of each site has this cell
abbrev pub HasCell : ℕ → Cell → Type 0
HasCell sites (Out j) = j < sites
HasCell sites Taken = Unit {0}
HasCell sites Ann = Unit {0}
HasCell sites Fin = Unit {0}

-- what holds of every record of a book of so many sites
pub record IsRecord (sites : ℕ) (st : RecordState) : Type 0 where
  pub seats : IsSeatState st.seats
  pub notices : IsNotices st.notices
  pub seat_sites : site_count st.seats.matrix ≡ sites
  pub notice_sites : length st.notices.announced ≡ sites

-- what holds of every book
pub record IsBook (b : BookState) : Type 0 where
  pub few_sites : b.sites ≤ 16
  pub few_records : length b.records ≤ 256
  pub records : (r : ℕ) → r < length b.records → IsRecord b.sites (record_at b r)

-- how many counters of the new state are above those of the old one
abbrev pub record_rises : RecordState → RecordState → ℕ
record_rises old new = seat_rises old.seats new.seats + notice_rises old.notices new.notices

abbrev pub records_rise : List RecordState → List RecordState → ℕ
records_rise [] new = 0
records_rise (x ∷ xs) [] = 0
records_rise (x ∷ xs) (y ∷ ys) = record_rises x y + records_rise xs ys

abbrev pub book_rises : BookState → BookState → ℕ
book_rises old new = records_rise old.records new.records

-- a book with other seats, or other notices, of one record
abbrev pub with_seats : BookState → ℕ → SeatState → BookState
with_seats b r seats = record b { records = slice_set b.records r (record { seats = seats; notices = notices_at b r }) }

abbrev pub with_notices : BookState → ℕ → NoticeState → BookState
with_notices b r notices = record b { records = slice_set b.records r (record { seats = seats_at b r; notices = notices }) }
