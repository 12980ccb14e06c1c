use Rattle.std.proofs.Common.{◌≡◌, ◌++◌}
use Rattle.merge_core.specs.Book.{book_shape, counter_of}
use Rattle.merge_core.specs.Moved.{moved_below}
use Rattle.merge_core.proofs.book.Book.is_all_moved.Given as goal

abbrev pub invariant-loop-r : goal.invariant-loop-r
invariant-loop-r l = l.rows ≡ moved_below (book_shape l.self) (counter_of l.self) l.r ++ l.rest
