use Rattle.std.proofs.Common.{◌≢◌, ℕ, ◌<◌, ◌≤◌, slice_index}
use Rattle.grow_counters.specs.Counts.{counter_limit}
use Rattle.merge_core.proofs.book.validity.are_limited.Given as goal

abbrev pub invariant-loop-j : goal.invariant-loop-j
invariant-loop-j l = (k : ℕ) → k < l.j → k ≢ l.own → slice_index l.out k ≤ counter_limit
