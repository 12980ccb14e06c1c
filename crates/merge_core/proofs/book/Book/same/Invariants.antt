use Rattle.std.proofs.Common.{◌≡◌, ℕ, ◌<◌, get_or}
use Rattle.merge_core.specs.Book.{nothing_known}
use Rattle.merge_core.proofs.book.Book.same.Given as goal

abbrev pub invariant-loop-r : goal.invariant-loop-r
invariant-loop-r l = (k : ℕ) → k < l.r → get_or l.self-inside.records.items k nothing_known ≡ get_or l.other-inside.records.items k nothing_known
