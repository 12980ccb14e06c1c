use Rattle.std.proofs.Common.{◌≤◌, length}
use Rattle.text_input.specs.Lines.{lines_of}
use Rattle.run_engine.specs.Scripts.{most_lines, IsScriptSoFar}
use Rattle.run_engine.proofs.script.read_script.Given as goal

abbrev pub invariant-lines : goal.invariant-lines
invariant-lines l = record {
  so_far : IsScriptSoFar l.layout (lines_of l.script) (lines_of l.rest) l.asked.items;
  few : length l.asked.items ≤ most_lines;
}

abbrev pub decreases-lines : goal.decreases-lines
decreases-lines l = length l.rest
