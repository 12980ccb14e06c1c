use Rattle.std.proofs.Common.{◌≡◌, ◌++◌}
use Rattle.merge_core.specs.Book.{book_shape, counter_of}
use Rattle.merge_core.specs.Moved.{moved_rows}
use Rattle.merge_core.proofs.book.Book.behind_record.Given as goal

abbrev pub invariant-loop-s : goal.invariant-loop-s
invariant-loop-s l = l.rows ≡ moved_rows (book_shape l.self) (counter_of l.self) l.r l.s ++ l.rest
