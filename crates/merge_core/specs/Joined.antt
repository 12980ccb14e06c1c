-- A record, and a book, joined with one row.
use Rattle.std.specs.Prelude.{slice_set}
use Rattle.seat_rows.specs.Seats.{joined_seats_at}
use Rattle.writer_notices.specs.Notices.{joined_at}
use Rattle.merge_core.specs.declared.delta.Row.{Row}
use Rattle.merge_core.specs.declared.record.RecordState.{RecordState}
use Rattle.merge_core.specs.Book.{BookState, record_at}

-- the seats and notices of the row's site, each counter the greater one
abbrev pub joined_record : RecordState → Row → RecordState
joined_record it row = record {
  seats = joined_seats_at it.seats row.s row.out row.taken;
  notices = joined_at it.notices row.s row.ann row.fin;
}

-- the book with the row's record joined
abbrev pub with_row : BookState → Row → BookState
with_row b row = record b { records = slice_set b.records row.r (joined_record (record_at b row.r) row) }
