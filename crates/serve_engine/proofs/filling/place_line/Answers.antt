use Rattle.std.proofs.Common.{◌≡◌, ◌∙◌, Bool, [], ◌∷◌, ◌++◌, sym, ap, subst, arith}
use Rattle.std.specs.Prelude.{nat_lt, string_bytes}
use Rattle.std.proofs.lemmas.Bool.{ltb-false}
use Rattle.line_conversation.specs.Turns.{Whole}
use Rattle.serve_engine.specs.Exchanges.{Exchange}
use Rattle.serve_engine.specs.Steps.{told_text}
use Rattle.serve_engine.specs.Filling.{Fills, RoundState}
use Rattle.serve_engine.proofs.ExchangeLemmas.{told_exchange}
use Rattle.serve_engine.proofs.FillingLemmas.{answer_added, no_changes, on_ok, placed_in, unanswered}
use Rattle.serve_engine.proofs.filling.place_line.Goals as goal

pub returns-in-LogFailed-clause-placed : goal.returns-in-LogFailed-clause-placed
returns-in-LogFailed-clause-placed g c = λ terms a k xs are fills. absurd (c.in-LogFailed.ensures.served terms fills.filled.account are fills.filled.stands).failed

pub returns-then-is_mark_due-clause-placed : goal.returns-then-is_mark_due-clause-placed
returns-then-is_mark_due-clause-placed g c = λ terms a k xs are fills.
    unanswered g.K.Keeper g.B.Base.base _ (λ x d kept. kept) (λ x d kept. kept) (λ x d e kept. kept) _ _ terms a k c.args.held.now c.serve_line-told.new.live _ _
    c.args.round.now c.push_line.new.self xs c.args.line.now c.serve_line-told.result (string_bytes c.serve_line-told.new.text) fills
    (c.serve_line-told.ensures.served terms fills.filled.account are fills.filled.stands) (on_ok c.push_line.result _ c.push_line.ensures.ok (sym c.is_err.ensures.value ∙ c.if-is_err.false))

pub returns-then-is_frozen-clause-placed : goal.returns-then-is_frozen-clause-placed
returns-then-is_frozen-clause-placed g c = λ terms a k xs are fills.
    unanswered g.K.Keeper g.B.Base.base _ (λ x d kept. kept) (λ x d kept. kept) (λ x d e kept. kept) _ _ terms a k c.args.held.now c.serve_line-told.new.live _ _
    c.args.round.now c.push_line.new.self xs c.args.line.now c.serve_line-told.result (string_bytes c.serve_line-told.new.text) fills
    (c.serve_line-told.ensures.served terms fills.filled.account are fills.filled.stands) (on_ok c.push_line.result _ c.push_line.ensures.ok (sym c.is_err.ensures.value ∙ c.if-is_err.false))

pub returns-then-is_err-2-clause-placed : goal.returns-then-is_err-2-clause-placed
returns-then-is_err-2-clause-placed g c = λ terms a k xs are fills.
    unanswered g.K.Keeper g.B.Base.base _ (λ x d kept. kept) (λ x d kept. kept) (λ x d e kept. kept) _ _ terms a k c.args.held.now c.serve_line-told.new.live _ _
    c.args.round.now c.push_answer.new.self xs c.args.line.now c.serve_line-told.result (string_bytes c.serve_line-told.new.text) fills
    (c.serve_line-told.ensures.served terms fills.filled.account are fills.filled.stands)
    (c.push_answer.ensures.err (sym c.is_err-2.ensures.value ∙ c.if-is_err-2.true) ∙ on_ok c.push_line.result _ c.push_line.ensures.ok (sym c.is_err.ensures.value ∙ c.if-is_err.false))

pub returns-clause-placed : goal.returns-clause-placed
returns-clause-placed g c = λ terms a k xs are fills.
    let round = c.args.round.now in
    let line = c.args.line.now in
    let old = c.args.held.now in
    let new = c.serve_line-told.new.live in
    let told = c.serve_line-told.result in
    let text = string_bytes c.serve_line-told.new.text in
    let waits : Bool = nat_lt 0 c.waiting-waits.result in
    let same =
    answer_added round c.push_line.new.self c.push_answer.new.self line c.told_text.result.now (told_text told text) waits
    (on_ok c.push_line.result _ c.push_line.ensures.ok (sym c.is_err.ensures.value ∙ c.if-is_err.false)) (c.told_text.ensures ∙ ap (told_text told) c.as_str.ensures.value)
    (on_ok c.push_answer.result _ c.push_answer.ensures.ok (sym c.is_err-2.ensures.value ∙ c.if-is_err-2.false)) in
    subst (λ (r : RoundState). (x : Exchange) × (x.line ≡ Whole line) × Fills g.K.Keeper g.B.Base.base terms a k new r (xs ++ x ∷ [])) (sym same)
    (placed_in g.K.Keeper g.B.Base.base _ (λ x d kept. kept) (λ x d kept. kept) (λ x d e kept. kept) _ _ terms a k old new _ _ round xs line (told_text told text) waits fills
    (sym c.is_frozen.ensures ∙ c.if-is_frozen.false)
    (told_exchange _ _ _ terms fills.filled.account old new _ _ line told text c.in_default.not-LogFailed (c.serve_line-told.ensures.served terms fills.filled.account are fills.filled.stands))
    (λ none. let few = ltb-false 0 c.waiting-waits.result none in no_changes new.keeper.changes (omega (arith, few, c.waiting-waits.ensures))))
