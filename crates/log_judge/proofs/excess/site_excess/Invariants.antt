use Rattle.std.proofs.Common.{◌≡◌, ◌+◌, ℕ, ◌<◌, [], length, get_or}
use Rattle.log_judge.specs.Excess.{NoneAhead, brought_by}
use Rattle.log_judge.proofs.excess.site_excess.Given as goal

abbrev pub invariant-runs : goal.invariant-runs
invariant-runs l = record {
  sum : l.at + l.left ≡ l.cut;
  none : (k : ℕ) → k < l.at → NoneAhead l.tables (get_or (brought_by l.flags l.runs) k []);
  here : (k : ℕ) → get_or (brought_by l.flags l.runs) (l.at + k) [] ≡ get_or (brought_by l.flags_left l.rest) k [];
}

abbrev pub decreases-runs : goal.decreases-runs
decreases-runs l = length l.rest
