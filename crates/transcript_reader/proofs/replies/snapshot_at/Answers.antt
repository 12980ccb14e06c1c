use Rattle.transcript_reader.proofs.ReplyLemmas.{no_snapshot}
use Rattle.transcript_reader.proofs.replies.snapshot_at.Goals as goal

pub returns-in-Err : goal.returns-in-Err
returns-in-Err c = λ behind brace. no_snapshot c.in-Err.e c.args.bytes.now behind brace c.in-Err.ensures
