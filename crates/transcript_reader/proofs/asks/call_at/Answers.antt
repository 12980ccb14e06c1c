use Rattle.transcript_reader.proofs.CallLemmas.{call_so}
use Rattle.transcript_reader.proofs.asks.call_at.Goals as goal

pub returns-in-Some : goal.returns-in-Some
returns-in-Some c = rw c.in-Some.ensures (c.merge_at.ensures c.args.layout.now.records)

pub returns : goal.returns
returns c = call_so (λ x. (x.0, x.1.now)) c.args.layout.now c.sites.ensures.layout c.args.bytes.now c.worded_call.result c.worded_call.ensures c.in_default.ensures
