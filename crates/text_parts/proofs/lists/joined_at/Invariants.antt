use Rattle.std.proofs.Common.{◌≡◌, ◌-◌}
use Rattle.text_parts.specs.Readers.{later_at, joined_at}
use Rattle.text_parts.proofs.ElementLaws.{with_front}
use Rattle.text_parts.proofs.lists.joined_at.Given as goal

abbrev pub invariant-loop : goal.invariant-loop
invariant-loop g l = with_front l.elements.items (later_at g.E.Element.at (l.more - l.counter) l.rest) ≡ joined_at g.E.Element.at l.more l.bytes
