use Rattle.std.proofs.Common.{length}
use Rattle.text_input.specs.Lines.{lines_of}
use Rattle.transcript_reader.specs.Lines.{AreReadUpTo}
use Rattle.transcript_reader.proofs.reading.read_transcripts.Given as goal

abbrev pub invariant-loop-rest : goal.invariant-loop-rest
invariant-loop-rest l = AreReadUpTo l.layout (lines_of l.bytes) (lines_of l.rest) l.line l.transcripts.items

abbrev pub decreases-loop-rest : goal.decreases-loop-rest
decreases-loop-rest l = length l.rest
