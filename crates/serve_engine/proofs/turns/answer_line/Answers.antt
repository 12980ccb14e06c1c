use Rattle.std.proofs.Common.{◌∙◌, List, ℕ, inl, inr, refl, sym, ap, subst}
use Rattle.std.specs.Prelude.{string_bytes}
use Rattle.serve_engine.specs.Answers.{fault_line}
use Rattle.serve_engine.specs.Steps.{Exchanges, exchange_of, told_text}
use Rattle.serve_engine.proofs.ExchangeLemmas.{store_gone, told_exchange}
use Rattle.serve_engine.proofs.turns.answer_line.Goals as goal

pub returns-then-is_gone-clause-answered : goal.returns-then-is_gone-clause-answered
returns-then-is_gone-clause-answered g c = λ terms a are stands.
    inl (
      fault_line,
      store_gone g.K.Keeper g.K.LiveKeeper.is_outdated g.L.CallLog terms a c.args.live.now c.freeze.new.self c.args.log.now (g.C.Conversation.kept c.args.conversation.now) stands
          (c.is_gone.ensures c.if-is_gone.true) c.freeze.ensures,
      c.tell.ensures.told,
    )

pub returns-in-LogFailed-clause-answered : goal.returns-in-LogFailed-clause-answered
returns-in-LogFailed-clause-answered g c = λ terms a are stands. inr (c.in-LogFailed.ensures.served terms a are stands, refl, refl)

pub returns-clause-answered : goal.returns-clause-answered
returns-clause-answered g c = λ terms a are stands.
    let old = c.args.live.now in
    let s = c.serve_line-told.new in
    let told = c.serve_line-told.result in
    let exchange =
    told_exchange g.K.Keeper g.K.LiveKeeper.is_outdated g.L.CallLog terms a old s.live c.args.log.now s.log c.line.result.now told (string_bytes s.text) c.in_default.not-LogFailed
    (c.serve_line-told.ensures.served terms a are stands) in
    inl (
      c.told_text.result.now,
      subst (λ (t : List ℕ). Exchanges g.K.Keeper g.K.LiveKeeper.is_outdated g.L.CallLog terms a old s.live c.args.log.now s.log (exchange_of (g.C.Conversation.kept c.args.conversation.now) t))
          (sym (c.told_text.ensures ∙ ap (told_text told) c.as_str.ensures.value))
          (subst (λ (l : List ℕ). Exchanges g.K.Keeper g.K.LiveKeeper.is_outdated g.L.CallLog terms a old s.live c.args.log.now s.log (exchange_of l (told_text told (string_bytes s.text)))) c.line.ensures exchange),
      c.tell-2.ensures.told,
    )
