use Rattle.std.proofs.Common.{ℕ, ◌<◌, get_or}
use Rattle.log_replay.specs.Stream.{HasEnded}
use Rattle.log_judge.specs.declared.stream.SiteLog.{SiteLog}
use Rattle.log_judge.proofs.stream.Logs.first_fault.Given as goal

abbrev pub invariant-sites : goal.invariant-sites
invariant-sites l = (k : ℕ) → k < l.site → (none : SiteLog) → ¬ HasEnded (get_or l.self.sites.items k none).replay.stage
