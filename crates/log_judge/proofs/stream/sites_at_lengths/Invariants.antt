use Rattle.std.proofs.Common.{◌≡◌, ℕ, ◌<◌, List, [], length, get_or}
use Rattle.desk_log.specs.declared.transcript.Transcript.{Transcript}
use Rattle.log_judge.specs.declared.keeping.Keeping.{Keeping}
use Rattle.log_judge.specs.declared.stream.SiteLog.{SiteLog}
use Rattle.log_judge.specs.Cut.{runs_at}
use Rattle.log_judge.specs.Stream.{IsLog}
use Rattle.log_judge.proofs.stream.sites_at_lengths.Given as goal

abbrev pub invariant-sites : goal.invariant-sites
invariant-sites l = record {
  number : length l.sites.items ≡ l.i;
  each : (keeping : Keeping) (ts : List Transcript) → length ts ≡ l.layout.sites → (k : ℕ) → k < l.i → k < length ts → (none : SiteLog) → IsLog l.layout ts (l.lengths) k keeping [] (runs_at ts k) (get_or l.sites.items k none);
}
