use Rattle.std.proofs.Common.{◌≡◌, length, vec_capacity}
use Rattle.merge_core.specs.Book.{book_shape, counter_of}
use Rattle.merge_core.specs.Moved.{moved_below, all_moved}
use Rattle.merge_core.proofs.book.Book.all_moved.Given as goal

abbrev pub invariant-loop-r : goal.invariant-loop-r
invariant-loop-r l = record {
  rows : l.rows.items ≡ moved_below (book_shape l.self) (counter_of l.self) l.r;
  capacity : vec_capacity l.rows ≡ length (all_moved (book_shape l.self) (counter_of l.self));
}
