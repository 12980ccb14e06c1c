use Rattle.std.proofs.Common.{◌≡◌, ◌+◌, length}
use Rattle.log_judge.specs.Cut.{entries_in}
use Rattle.log_judge.proofs.cut.count_entries.Given as goal

abbrev pub invariant-runs : goal.invariant-runs
invariant-runs l = l.n + entries_in l.rest ≡ entries_in l.runs

abbrev pub decreases-runs : goal.decreases-runs
decreases-runs l = length l.rest
