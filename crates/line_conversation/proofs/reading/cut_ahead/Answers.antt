use Rattle.std.proofs.Common.{[], refl, sym, subst, arith}
use Rattle.line_conversation.specs.Stream.{HeldState, Holds}
use Rattle.line_conversation.proofs.LineSteps.{line_there}
use Rattle.line_conversation.proofs.reading.cut_ahead.Goals as goal

pub returns-clause-cut : goal.returns-clause-cut
returns-clause-cut c =
    let none : Holds [] c.clear.new.self = subst (λ (h : HeldState). Holds [] h) (sym c.clear.ensures) (refl, omega arith) in
    line_there c.part-ends.result.1 c.args.ahead.now c.part-ends.result.0.now c.skip.new.self c.clear.new.self c.keep.new.self c.told.result
    c.if-not-ends.false c.part-ends.ensures c.skip.ensures none (λ line holds. c.keep.ensures.holds line holds) c.told.ensures
