use Rattle.std.proofs.Common.{◌≡◌, ◌++◌, vec_capacity}
use Rattle.merge_core.specs.Book.{book_shape, counter_of}
use Rattle.merge_core.specs.Moved.{moved_rows}
use Rattle.merge_core.proofs.book.Book.push_moved.Given as goal

abbrev pub invariant-loop-s : goal.invariant-loop-s
invariant-loop-s l = record {
  rows : l.rows.items ≡ l.initial.rows.items ++ moved_rows (book_shape l.self) (counter_of l.self) l.r l.s;
  capacity : vec_capacity l.rows ≡ vec_capacity l.initial.rows;
}
