use Rattle.text_parts.proofs.LiteralLaws.{after_takes}
use Rattle.transcript_reader.proofs.shown.behind.Goals as goal

pub returns-in-Ok : goal.returns-in-Ok
returns-in-Ok c = after_takes c.args.literal.now c.args.bytes.now c.in-Ok.rest.now c.in-Ok.ensures.read
