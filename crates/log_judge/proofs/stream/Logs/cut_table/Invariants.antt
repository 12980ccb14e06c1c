use Rattle.std.proofs.Common.{◌≡◌, ◌++◌, ℕ, List, string_bytes}
use Rattle.merge_core.specs.Layout.{LayoutState}
use Rattle.desk_log.specs.declared.transcript.Transcript.{Transcript}
use Rattle.log_judge.specs.Table.{cut_header, cut_lines}
use Rattle.log_judge.specs.Verdict.{AreOfSites}
use Rattle.log_judge.specs.Stream.{AreAllLogs}
use Rattle.log_judge.proofs.stream.Logs.cut_table.Given as goal

abbrev pub invariant-sites : goal.invariant-sites
invariant-sites l = (layout : LayoutState) (ts : List Transcript) (cut : List ℕ) → AreOfSites layout ts → AreAllLogs layout ts cut l.self
    → string_bytes l.text ≡ cut_header ++ cut_lines ts l.lengths l.i
