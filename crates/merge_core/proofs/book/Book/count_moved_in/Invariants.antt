use Rattle.std.proofs.Common.{◌≡◌, ◌≤◌, length}
use Rattle.merge_core.specs.Book.{book_shape, counter_of}
use Rattle.merge_core.specs.Moved.{moved_rows}
use Rattle.merge_core.proofs.book.Book.count_moved_in.Given as goal

abbrev pub invariant-loop-s : goal.invariant-loop-s
invariant-loop-s l = record {
  count : l.count ≡ length (moved_rows (book_shape l.self) (counter_of l.self) l.r l.s);
  few : l.count ≤ l.s;
}
