use Rattle.std.proofs.Common.{ℕ, ◌<◌, List, get_or}
use Rattle.desk_log.specs.declared.transcript.Transcript.{Transcript}
use Rattle.log_judge.specs.declared.stream.SiteLog.{SiteLog}
use Rattle.log_judge.specs.Cut.{IsExcess, cut_account}
use Rattle.log_judge.specs.Verdict.{IsCut}
use Rattle.log_judge.specs.Stream.{AreAllLogs, AreNotAhead, HasNoFault, IsGuess, TellAll}
use Rattle.log_judge.proofs.stream.Logs.compared.Given as goal

abbrev pub invariant-sites : goal.invariant-sites
invariant-sites l = record {
  none_ahead : (k : ℕ) → k < l.site → (none : SiteLog) → AreNotAhead l.tables (get_or l.self.sites.items k none).taken.items;
  within : (ts : List Transcript) (cut : List ℕ) → AreAllLogs l.layout ts cut l.self → IsCut ts cut → HasNoFault l.self.sites.items → TellAll l.tables (cut_account l.layout ts cut) → IsGuess l.self.keeping (cut_account l.layout ts cut)
      → (k : ℕ) → k < l.site → (at r s : ℕ) → ¬ IsExcess l.layout ts cut k at r s;
}
