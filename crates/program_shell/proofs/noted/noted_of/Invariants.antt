use Rattle.std.proofs.Common.{◌≡◌, length}
use Rattle.text_input.specs.Lines.{lines_of}
use Rattle.program_shell.specs.Notes.{ends_refused, some_outdated}
use Rattle.program_shell.proofs.noted.noted_of.Given as goal

abbrev pub invariant-loop-refused : goal.invariant-loop-refused
invariant-loop-refused l = record {
  refused : ends_refused l.was_refused (lines_of l.text) ≡ ends_refused l.refused (lines_of l.rest);
  outdated : some_outdated l.was_outdated (lines_of l.text) ≡ some_outdated l.outdated (lines_of l.rest);
}

abbrev pub decreases-loop-refused : goal.decreases-loop-refused
decreases-loop-refused l = length l.rest
