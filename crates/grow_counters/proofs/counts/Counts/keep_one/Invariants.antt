use Rattle.std.proofs.Common.{◌≡◌, ℕ, ◌<◌, ◌≤◌, length, slice_index}
use Rattle.grow_counters.specs.Counts.{kept_count}
use Rattle.grow_counters.proofs.counts.Counts.keep_one.Given as goal

abbrev pub invariant-loop-i : goal.invariant-loop-i
invariant-loop-i l = record {
  size : length l.self ≡ length l.initial.self;
  done : (k : ℕ) → k < l.i → slice_index l.self k ≡ kept_count l.initial.self l.from l.until l.kept k;
  rest : (k : ℕ) → l.i ≤ k → slice_index l.self k ≡ slice_index l.initial.self k;
}
