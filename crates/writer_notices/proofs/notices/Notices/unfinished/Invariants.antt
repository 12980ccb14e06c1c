use Rattle.std.proofs.Common.{ℕ, ◌<◌, ◌≤◌, slice_index}
use Rattle.writer_notices.proofs.notices.Notices.unfinished.Given as goal

abbrev pub invariant-loop-s : goal.invariant-loop-s
invariant-loop-s l = (k : ℕ) → k < l.s → slice_index l.self-inside.announced k ≤ slice_index l.self-inside.finished k
