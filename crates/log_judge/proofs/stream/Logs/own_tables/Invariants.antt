use Rattle.std.proofs.Common.{ℕ, List}
use Rattle.desk_log.specs.declared.transcript.Transcript.{Transcript}
use Rattle.log_judge.specs.Verdict.{IsCut}
use Rattle.log_judge.specs.Stream.{AreAllLogs, AreTables, HasNoFault}
use Rattle.log_judge.proofs.stream.Logs.own_tables.Given as goal

abbrev pub invariant-sites : goal.invariant-sites
invariant-sites l = (ts : List Transcript) (cut : List ℕ) → AreAllLogs l.layout ts cut l.self → IsCut ts cut → HasNoFault l.self.sites.items → AreTables l.layout ts cut l.site l.tables.items
