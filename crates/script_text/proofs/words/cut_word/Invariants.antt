use Rattle.std.proofs.Common.{ℕ, ◌<◌, ◌==◌, slice_index, IsTrue}
use Rattle.script_text.proofs.words.cut_word.Given as goal

abbrev pub invariant-loop-end : goal.invariant-loop-end
invariant-loop-end l = (j : ℕ) → j < l.end → ¬ IsTrue (slice_index l.line j == 32)
