use Rattle.std.proofs.Common.{◌≡◌, ◌≤◌}
use Rattle.grow_counters.specs.Counts.{rise_count}
use Rattle.grow_counters.proofs.CountsLemmas.{IsMergedBelow}
use Rattle.grow_counters.proofs.counts.Counts.join_slice.Given as goal

abbrev pub invariant-loop-i : goal.invariant-loop-i
invariant-loop-i l = record {
  merged : IsMergedBelow l.i l.initial.self l.other l.self;
  counted : l.risen ≡ rise_count l.initial.self l.self;
  few : l.risen ≤ l.i;
}
