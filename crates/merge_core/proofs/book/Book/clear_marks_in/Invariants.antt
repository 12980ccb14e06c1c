use Rattle.std.proofs.Common.{◌≡◌}
use Rattle.merge_core.specs.Book.{IsBook}
use Rattle.merge_core.proofs.book.Book.clear_marks_in.Given as goal

abbrev pub invariant-loop-s : goal.invariant-loop-s
invariant-loop-s l = record {
  same : l.self ≡ l.initial.self;
  book : IsBook l.self;
}
