use Rattle.std.proofs.Common.{ℕ, List, length}
use Rattle.merge_core.specs.Layout.{LayoutState}
use Rattle.desk_log.specs.declared.entry.Entry.{Entry}
use Rattle.desk_log.specs.declared.transcript.Run.{Run}
use Rattle.desk_log.specs.declared.transcript.Transcript.{Transcript}
use Rattle.log_judge.specs.Cut.{cut_account}
use Rattle.log_judge.specs.Stream.{AreDone, AreLogs}
use Rattle.log_judge.proofs.wanted.some_open.Given as goal

abbrev pub invariant-rows : goal.invariant-rows
invariant-rows l = (layout : LayoutState) (ts : List Transcript) (cut : List ℕ) (more : ℕ → List Entry) (later : ℕ → List Run) → AreLogs layout ts cut more later l.logs
    → AreDone (cut_account layout ts cut) l.rest → AreDone (cut_account layout ts cut) l.rows

abbrev pub decreases-rows : goal.decreases-rows
decreases-rows l = length l.rest
