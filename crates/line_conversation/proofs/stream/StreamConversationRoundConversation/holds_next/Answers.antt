use Rattle.std.proofs.Common.{◌≡◌, subst}
use Rattle.std.specs.Prelude.{IsTrue}
use Rattle.line_conversation.specs.Stream.{StreamState, IsReady}
use Rattle.line_conversation.proofs.StreamLemmas.{ready_by}
use Rattle.line_conversation.proofs.stream.StreamConversationRoundConversation.holds_next.Goals as goal

pub returns : goal.returns
returns g c =
    let i = c.self.inside in
    let now : StreamState = record { source = i.source; sink = i.sink; ahead = i.ahead; kept = i.held.bytes; limit = i.held.limit; ended = i.ended; broken = i.broken; reads = i.reads } in
    subst (λ (s : StreamState). (IsTrue c.has_line.result → IsReady s) × (IsReady s → IsTrue c.has_line.result)) c.self.view_is
    (ready_by c.has_line.result now c.if-self.false c.has_line.ensures)
