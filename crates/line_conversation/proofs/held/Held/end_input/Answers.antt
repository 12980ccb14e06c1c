use Rattle.std.proofs.Common.{◌≡◌, true, false, ◌∙◌, sym, ap}
use Rattle.line_conversation.specs.Stream.{last_of}
use Rattle.line_conversation.proofs.LineSteps.{some_came}
use Rattle.line_conversation.proofs.held.Held.end_input.Goals as goal

pub returns-then-empty-clause-told : goal.returns-then-empty-clause-told
returns-then-empty-clause-told c = λ line holds.
    ap last_of (sym ((c.is_empty-empty.ensures line holds).0 c.if-empty.true))

pub returns-else-empty-clause-told : goal.returns-else-empty-clause-told
returns-else-empty-clause-told c = λ line holds.
    some_came line (λ none. let both : true ≡ false = sym ((c.is_empty-empty.ensures line holds).1 none) ∙ c.if-empty.false in cc)
