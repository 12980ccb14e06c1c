use Rattle.std.proofs.Common.{ℕ, ◌<◌}
use Rattle.std.specs.Prelude.{IsTrue}
use Rattle.session_book.specs.Sites.{has_number}
use Rattle.session_book.proofs.closing.are_all.Given as goal

abbrev pub invariant-numbers : goal.invariant-numbers
invariant-numbers g l = (k : ℕ) → k < l.n → IsTrue (has_number k l.passes)
