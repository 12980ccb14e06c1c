use Rattle.std.proofs.Common.{◌≡◌}
use Rattle.log_judge.specs.Cut.{lengths_below}
use Rattle.log_judge.proofs.cut.full_cut.Given as goal

abbrev pub invariant-sites : goal.invariant-sites
invariant-sites l = l.cut.items ≡ lengths_below l.transcripts l.i
