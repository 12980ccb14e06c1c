use Rattle.std.proofs.Common.{◌≡◌, ◌-◌}
use Rattle.line_conversation.specs.Stream.{ReadsSoFar}
use Rattle.line_conversation.proofs.reading.read_line.Given as goal

abbrev pub invariant-loop-reads : goal.invariant-loop-reads
invariant-loop-reads g l =
    ReadsSoFar l.initial.source l.source l.initial.ahead l.ahead l.held l.initial.ended l.ended l.reads × (l.held.limit ≡ l.initial.held.limit)

abbrev pub decreases-loop-reads : goal.decreases-loop-reads
decreases-loop-reads g l = 18446744073709551615 - l.reads
