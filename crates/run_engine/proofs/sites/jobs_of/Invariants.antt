use Rattle.std.proofs.Common.{◌≡◌, ℕ, ◌<◌, length, slice_index_or}
use Rattle.run_engine.specs.Runs.{IsJob}
use Rattle.run_engine.proofs.sites.jobs_of.Given as goal

abbrev pub invariant-sites : goal.invariant-sites
invariant-sites l = record {
  number : length l.jobs.items ≡ l.site;
  each : (i : ℕ) (d : _) → i < length l.jobs.items → IsJob l.layout l.asked i (slice_index_or l.jobs.items i d);
}
