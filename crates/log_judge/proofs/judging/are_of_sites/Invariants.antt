use Rattle.std.proofs.Common.{◌≡◌, ℕ, ◌<◌, get_or}
use Rattle.log_judge.specs.Cut.{no_transcript}
use Rattle.log_judge.proofs.judging.are_of_sites.Given as goal

abbrev pub invariant-sites : goal.invariant-sites
invariant-sites l = (k : ℕ) → k < l.i → (get_or l.transcripts k no_transcript).site ≡ k
