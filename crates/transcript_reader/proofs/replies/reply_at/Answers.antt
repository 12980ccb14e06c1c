use Rattle.transcript_reader.proofs.ReplyLemmas.{reply_so}
use Rattle.transcript_reader.proofs.replies.reply_at.Goals as goal

pub returns-in-Some : goal.returns-in-Some
returns-in-Some c = c.snapshot_at.ensures c.in-Some.field-0.now c.in-Some.ensures

pub returns : goal.returns
returns c = reply_so (λ x. (x.0, x.1.now)) c.args.bytes.now c.worded_reply.result c.worded_reply.ensures c.in_default.ensures
