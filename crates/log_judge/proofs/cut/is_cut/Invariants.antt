use Rattle.std.proofs.Common.{ℕ, ◌<◌, ◌≤◌, get_or}
use Rattle.log_judge.specs.Cut.{entries_in, runs_at}
use Rattle.log_judge.proofs.cut.is_cut.Given as goal

abbrev pub invariant-sites : goal.invariant-sites
invariant-sites l = (k : ℕ) → k < l.i → get_or l.cut k 0 ≤ entries_in (runs_at l.transcripts k)
