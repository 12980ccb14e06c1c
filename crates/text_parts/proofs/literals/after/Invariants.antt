use Rattle.std.proofs.Common.{◌≡◌, cond, None, drop}
use Rattle.text_parts.specs.Readers.{after}
use Rattle.text_parts.proofs.literals.after.Given as goal

abbrev pub invariant-loop-i : goal.invariant-loop-i
invariant-loop-i l = cond l.same (after (drop l.i l.literal) (drop l.i l.bytes)) None ≡ after l.literal l.bytes
