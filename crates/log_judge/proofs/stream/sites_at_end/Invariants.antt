use Rattle.std.proofs.Common.{◌≡◌, ℕ, ◌<◌, List, [], length, get_or}
use Rattle.desk_log.specs.declared.transcript.Transcript.{Transcript}
use Rattle.log_judge.specs.declared.keeping.Keeping.{Keeping}
use Rattle.log_judge.specs.declared.stream.SiteLog.{SiteLog}
use Rattle.log_judge.specs.Cut.{full_cut, runs_at}
use Rattle.log_judge.specs.Stream.{IsLog}
use Rattle.log_judge.proofs.stream.sites_at_end.Given as goal

abbrev pub invariant-sites : goal.invariant-sites
invariant-sites l = record {
  number : length l.sites.items ≡ l._i;
  each : (keeping : Keeping) (ts : List Transcript) → length ts ≡ l.layout.sites → (k : ℕ) → k < l._i → k < length ts → (none : SiteLog) → IsLog l.layout ts (full_cut ts) k keeping [] (runs_at ts k) (get_or l.sites.items k none);
}
