use Rattle.std.proofs.Common.{◌≡◌, ◌≢◌, ℕ, ◌<◌, []}
use Rattle.log_judge.specs.Cut.{runs_at}
use Rattle.log_file.proofs.legality.is_only_of.Given as goal

abbrev pub invariant-sites : goal.invariant-sites
invariant-sites l = (j : ℕ) → j < l.k → j ≢ l.site → runs_at l.transcripts j ≡ []
