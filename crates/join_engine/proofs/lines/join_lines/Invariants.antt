use Rattle.std.proofs.Common.{◌+◌, ◌≤◌, length}
use Rattle.text_input.specs.Lines.{lines_of}
use Rattle.join_engine.specs.Stops.{JoinsSoFar}
use Rattle.join_engine.proofs.lines.join_lines.Given as goal

abbrev pub invariant-loop-rest : goal.invariant-loop-rest
invariant-loop-rest l = record {
  so_far : JoinsSoFar (lines_of l.bytes) (lines_of l.rest) l.number l.initial.book l.book;
  counted : l.number + length l.rest ≤ length l.bytes;
}

abbrev pub decreases-loop-rest : goal.decreases-loop-rest
decreases-loop-rest l = length l.rest
