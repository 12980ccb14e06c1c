use Rattle.std.proofs.Common.{ℕ, ◌<◌, slice_index, IsTrue}
use Rattle.transcript_reader.specs.Words.{ends_word}
use Rattle.transcript_reader.proofs.words.word_at.Given as goal

abbrev pub invariant-loop-end : goal.invariant-loop-end
invariant-loop-end l = (j : ℕ) → j < l.end → ¬ IsTrue (ends_word (slice_index l.bytes j))
