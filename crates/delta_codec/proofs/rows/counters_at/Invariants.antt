use Rattle.std.proofs.Common.{◌≡◌, ◌-◌, ◌+◌, length, take}
use Rattle.text_parts.specs.Readers.{later_at, joined_at, number_at}
use Rattle.text_parts.proofs.ElementLaws.{with_front}
use Rattle.delta_codec.proofs.rows.counters_at.Given as goal

abbrev pub invariant-loop-i : goal.invariant-loop-i
invariant-loop-i l = record {
  places : length l.numbers ≡ 16;
  read : with_front (take (l.i + 1) l.numbers) (later_at number_at (15 - l.i) l.rest) ≡ joined_at number_at 15 l.bytes;
}
