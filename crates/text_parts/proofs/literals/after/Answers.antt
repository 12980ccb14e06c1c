use Rattle.text_parts.proofs.LiteralLaws.{after_short}
use Rattle.text_parts.proofs.literals.after.Goals as goal

pub returns-then-bytes-literal-clause-read : goal.returns-then-bytes-literal-clause-read
returns-then-bytes-literal-clause-read c = after_short c.args.literal.now c.args.bytes.now c.if-bytes-literal.true
