use Rattle.std.proofs.Common.{◌≡◌, ℕ, ◌<◌}
use Rattle.merge_core.specs.Book.{row_in}
use Rattle.merge_core.proofs.book.equality.same_record.Given as goal

abbrev pub invariant-loop-s : goal.invariant-loop-s
invariant-loop-s l = (k : ℕ) → k < l.s → row_in l.a k ≡ row_in l.b k
