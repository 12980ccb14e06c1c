use Rattle.std.proofs.Common.{true}
use Rattle.merge_core.specs.Book.{book_shape, counter_of}
use Rattle.merge_core.specs.Moved.{moved_below}
use Rattle.transcript_reader.specs.Shown.{BeginsWithRows}
use Rattle.transcript_reader.proofs.shown.behind_rows.Given as goal

abbrev pub invariant-loop-r : goal.invariant-loop-r
invariant-loop-r l = BeginsWithRows true (moved_below (book_shape l.book) (counter_of l.book) l.r) l.bytes l.first l.rest
