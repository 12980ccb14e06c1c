use Rattle.std.proofs.Common.{◌∙◌, List, ℕ, ap, subst}
use Rattle.std.specs.Prelude.{string_bytes}
use Rattle.serve_engine.specs.Steps.{told_text}
use Rattle.serve_engine.specs.Together.{TellsText}
use Rattle.serve_engine.proofs.AloneLemmas.{answers_line}
use Rattle.serve_engine.proofs.ExchangeLemmas.{told_exchange}
use Rattle.serve_engine.proofs.rounds.serve_again.Goals as goal

pub returns-in-LogFailed-clause-served : goal.returns-in-LogFailed-clause-served
returns-in-LogFailed-clause-served g c = λ s rest n at b. absurd (c.in-LogFailed.ensures.served s.terms b.site.standing at.terms b.site.stands).failed

pub returns-clause-served : goal.returns-clause-served
returns-clause-served g c = λ s rest n at b.
    let told = c.serve_line-told.result in
    let text = string_bytes c.serve_line-told.new.text in
    answers_line g.K.Keeper g.K.LiveKeeper.is_outdated g.C.Conversation s _ c.args.live.now c.serve_line-told.new.live _ _ c.args.conversation.now c.tell_some.new.conversation n c.args.line.now rest
    (told_text told text) c.tell_some.result c.serve_line-told.ensures.honest b
    (told_exchange g.K.Keeper g.K.LiveKeeper.is_outdated _ s.terms b.site.standing c.args.live.now c.serve_line-told.new.live _ _ c.args.line.now told text c.in_default.not-LogFailed
    (c.serve_line-told.ensures.served s.terms b.site.standing at.terms b.site.stands))
    (subst (λ (t : List ℕ). TellsText g.C.Conversation c.args.conversation.now c.tell_some.new.conversation t c.tell_some.result) (c.told_text.ensures ∙ ap (told_text told) c.as_str.ensures.value) c.tell_some.ensures.told)
