use Rattle.std.proofs.Common.{sym, subst}
use Rattle.line_conversation.specs.Stream.{StreamState, TookPlace}
use Rattle.line_conversation.proofs.StreamLemmas.{held_more}
use Rattle.line_conversation.proofs.stream.StreamConversationRoundConversation.next_held.Goals as goal

pub returns-clause-heard : goal.returns-clause-heard
returns-clause-heard g c = λ first before was.
    let i = c.self.inside in
    let old : StreamState = record { source = i.source; sink = i.sink; ahead = i.ahead; kept = i.held.bytes; limit = i.held.limit; ended = i.ended; broken = i.broken; reads = i.reads } in
    let came = c.in_ok-next.ensures.cut in
    held_more first old c.cut_ahead.new.ahead c.cut_ahead.new.held c.in_ok-next.next c.if-self.false came.0 came.1 c.cut_ahead.ensures.limit before
    (subst (λ (s : StreamState). TookPlace first before s) (sym c.self.view_is) was)
