use Rattle.std.proofs.Common.{refl, sym, subst}
use Rattle.line_conversation.specs.Stream.{StreamState, TookPlace}
use Rattle.line_conversation.proofs.AheadLemmas.{case_true}
use Rattle.line_conversation.proofs.StreamLemmas.{told_text}
use Rattle.line_conversation.proofs.stream.StreamConversationConversation.tell.Goals as goal

pub returns-clause-told : goal.returns-clause-told
returns-clause-told g c = λ first before was done.
    let i = c.self.inside in
    let old : StreamState = record { source = i.source; sink = i.sink; ahead = i.ahead; kept = i.held.bytes; limit = i.held.limit; ended = i.ended; broken = i.broken; reads = i.reads } in
    let writes = case_true _ _ _ done c.write_and_flush.ensures.written in
    told_text first old (record old { sink = c.write_and_flush.new.self }) c.args.text.now refl writes before
    (subst (λ (s : StreamState). TookPlace first before s) (sym c.self.view_is) was)
