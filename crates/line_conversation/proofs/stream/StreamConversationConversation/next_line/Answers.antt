use denote.Enum.Bare.{sameb}
use Rattle.std.proofs.Common.{◌≡◌, ◌∙◌, true, refl, ap, sym, subst}
use Rattle.line_conversation.specs.contracts.conversation.Next.{the_type}
use Rattle.line_conversation.specs.declared.conversation.Next.{Next}
use Rattle.line_conversation.specs.declared.conversation.Next.TheVariants as next
use Rattle.line_conversation.specs.Stream.{StreamState, TookPlace}
use Rattle.line_conversation.proofs.StreamLemmas.{heard_more, is_failed}
use Rattle.line_conversation.proofs.stream.StreamConversationConversation.next_line.Goals as goal

pub returns-clause-heard : goal.returns-clause-heard
returns-clause-heard g c = λ first before was.
    let i = c.self.inside in
    let r = c.read_line-next in
    let old : StreamState = record { source = i.source; sink = i.sink; ahead = i.ahead; kept = i.held.bytes; limit = i.held.limit; ended = i.ended; broken = i.broken; reads = i.reads } in
    let new : StreamState = record { source = r.new.source; sink = i.sink; ahead = r.new.ahead; kept = r.new.held.bytes; limit = r.new.held.limit; ended = r.new.ended; broken = c.eq-self-inside.result; reads = r.new.reads } in
    let told : r.result ≡ next.Failed → new.broken ≡ true = λ e. c.eq-self-inside.ensures ∙ ap (λ (n : Next). sameb the_type n next.Failed) e in
    heard_more first old new r.new.held r.result c.if-self.false r.ensures.read r.ensures.limit refl refl refl told
    (λ broken. is_failed r.result (sym c.eq-self-inside.ensures ∙ broken)) before
    (subst (λ (s : StreamState). TookPlace first before s) (sym c.self.view_is) was)
