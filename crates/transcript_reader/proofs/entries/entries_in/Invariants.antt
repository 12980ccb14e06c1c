use Rattle.std.proofs.Common.{◌≡◌, ◌≤◌, ◌++◌, length, map}
use Rattle.std.specs.List.{All}
use Rattle.text_input.specs.Lines.{lines_of}
use Rattle.transcript_text.specs.Texts.{entry_text}
use Rattle.transcript_reader.specs.Fits.{FitsEntry}
use Rattle.transcript_reader.proofs.entries.entries_in.Given as goal

abbrev pub invariant-loop-alloc : goal.invariant-loop-alloc
invariant-loop-alloc l =
    (lines_of l.bytes ≡ map (entry_text l.layout.records) l.entries.items ++ lines_of l.rest) × (length l.rest ≤ length l.bytes) × All FitsEntry l.entries.items

abbrev pub decreases-loop-alloc : goal.decreases-loop-alloc
decreases-loop-alloc l = length l.rest
