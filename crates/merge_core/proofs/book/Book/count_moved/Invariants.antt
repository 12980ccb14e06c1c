use Rattle.std.proofs.Common.{◌≡◌, ◌≤◌, ◌*◌, length}
use Rattle.merge_core.specs.Book.{book_shape, counter_of}
use Rattle.merge_core.specs.Moved.{moved_below}
use Rattle.merge_core.proofs.book.Book.count_moved.Given as goal

abbrev pub invariant-loop-r : goal.invariant-loop-r
invariant-loop-r l = record {
  count : l.count ≡ length (moved_below (book_shape l.self) (counter_of l.self) l.r);
  few : l.count ≤ l.r * 16;
}
