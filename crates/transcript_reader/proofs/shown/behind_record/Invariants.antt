use Rattle.merge_core.specs.Book.{book_shape, counter_of}
use Rattle.merge_core.specs.Moved.{moved_rows}
use Rattle.transcript_reader.specs.Shown.{BeginsWithRows}
use Rattle.transcript_reader.proofs.shown.behind_record.Given as goal

abbrev pub invariant-loop-s : goal.invariant-loop-s
invariant-loop-s l = BeginsWithRows l.first (moved_rows (book_shape l.book) (counter_of l.book) l.r l.s) l.bytes l.still l.rest
