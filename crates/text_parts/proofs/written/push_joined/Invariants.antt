use Rattle.std.proofs.Common.{◌≡◌, ◌++◌, take, string_bytes}
use Rattle.text_parts.specs.Lists.{later}
use Rattle.text_parts.proofs.written.push_joined.Given as goal

abbrev pub invariant-loop-element : goal.invariant-loop-element
invariant-loop-element g l = string_bytes l.text ≡ string_bytes l.initial.text ++ later g.W.Written.text_of (take l.element-index l.later)
