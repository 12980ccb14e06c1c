use Rattle.std.proofs.Common.{◌≡◌}
use Rattle.merge_core.specs.Book.{IsBook}
use Rattle.merge_core.proofs.book.Book.clear_marks.Given as goal

abbrev pub invariant-loop-r : goal.invariant-loop-r
invariant-loop-r l = record {
  same : l.self ≡ l.initial.self;
  book : IsBook l.self;
}
