use Rattle.std.proofs.Common.{◌+◌, ◌≤◌, length}
use Rattle.text_input.specs.Lines.{lines_of}
use Rattle.rebuild_engine.specs.Steps.{ReadsSoFar}
use Rattle.rebuild_engine.proofs.lines.read_deltas.Given as goal

abbrev pub invariant-loop-rest : goal.invariant-loop-rest
invariant-loop-rest l = record {
  so_far : ReadsSoFar l.layout.records l.name l.alone (lines_of l.bytes) (lines_of l.rest) l.number l.deltas.items;
  counted : l.number + length l.rest ≤ length l.bytes;
}

abbrev pub decreases-loop-rest : goal.decreases-loop-rest
decreases-loop-rest l = length l.rest
