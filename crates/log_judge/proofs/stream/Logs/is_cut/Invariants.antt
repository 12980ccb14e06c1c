use Rattle.std.proofs.Common.{ℕ, ◌<◌, ◌≤◌, List, get_or}
use Rattle.merge_core.specs.Layout.{LayoutState}
use Rattle.desk_log.specs.declared.transcript.Transcript.{Transcript}
use Rattle.log_judge.specs.Cut.{entries_in, runs_at}
use Rattle.log_judge.specs.Stream.{AreAllLogs}
use Rattle.log_judge.proofs.stream.Logs.is_cut.Given as goal

abbrev pub invariant-sites : goal.invariant-sites
invariant-sites l = (layout : LayoutState) (ts : List Transcript) (cut : List ℕ) → AreAllLogs layout ts cut l.self → (k : ℕ) → k < l.i → get_or l.lengths k 0 ≤ entries_in (runs_at ts k)
