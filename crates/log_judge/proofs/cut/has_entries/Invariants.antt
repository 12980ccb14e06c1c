use Rattle.std.proofs.Common.{◌≤◌, length}
use Rattle.log_judge.specs.Cut.{entries_in}
use Rattle.log_judge.proofs.cut.has_entries.Given as goal

abbrev pub invariant-runs : goal.invariant-runs
invariant-runs l = record {
  ahead : l.n ≤ entries_in l.runs → l.left ≤ entries_in l.rest;
  within : l.left ≤ entries_in l.rest → l.n ≤ entries_in l.runs;
}

abbrev pub decreases-runs : goal.decreases-runs
decreases-runs l = length l.rest
