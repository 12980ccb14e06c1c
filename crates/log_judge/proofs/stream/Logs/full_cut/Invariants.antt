use Rattle.std.proofs.Common.{◌≡◌, ℕ, List}
use Rattle.merge_core.specs.Layout.{LayoutState}
use Rattle.desk_log.specs.declared.transcript.Transcript.{Transcript}
use Rattle.log_judge.specs.Cut.{lengths_below}
use Rattle.log_judge.specs.Stream.{AreAllLogs}
use Rattle.log_judge.proofs.stream.Logs.full_cut.Given as goal

abbrev pub invariant-sites : goal.invariant-sites
invariant-sites l = (layout : LayoutState) (ts : List Transcript) (cut : List ℕ) → AreAllLogs layout ts cut l.self → l.cut.items ≡ lengths_below ts l.i
