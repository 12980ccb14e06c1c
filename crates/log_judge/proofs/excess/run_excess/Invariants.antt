use Rattle.std.proofs.Common.{◌≡◌, ◌+◌, ℕ, ◌<◌, ◌≤◌, [], length, map, get_or}
use Rattle.log_judge.specs.Cut.{rows_brought}
use Rattle.log_judge.specs.Excess.{NoneAhead}
use Rattle.log_judge.proofs.excess.run_excess.Given as goal

abbrev pub invariant-entries : goal.invariant-entries
invariant-entries l = record {
  before : l.at ≤ l.left;
  none : (k : ℕ) → k < l.at → NoneAhead l.tables (get_or (map (rows_brought l.kept) l.entries) k []);
  here : (k : ℕ) → get_or (map (rows_brought l.kept) l.entries) (l.at + k) [] ≡ get_or (map (rows_brought l.kept) l.rest) k [];
}

abbrev pub decreases-entries : goal.decreases-entries
decreases-entries l = length l.rest
