use Rattle.std.proofs.Common.{◌≡◌, drop}
use Rattle.text_parts.specs.Readers.{digits_at}
use Rattle.text_parts.proofs.numbers.digits.Given as goal

abbrev pub invariant-loop-i : goal.invariant-loop-i
invariant-loop-i l = digits_at l.number (drop l.i l.bytes) ≡ digits_at l.first l.bytes
