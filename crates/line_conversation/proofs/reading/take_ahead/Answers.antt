use Rattle.line_conversation.proofs.AheadLemmas.{taken_with_lf}
use Rattle.line_conversation.proofs.reading.take_ahead.Goals as goal

pub returns-then-ends-clause-taken : goal.returns-then-ends-clause-taken
returns-then-ends-clause-taken c =
    taken_with_lf c.part-ends.result.1 c.args.ahead.now c.part-ends.result.0.now c.skip.new.self c.args.held.now c.keep.new.self
    c.if-ends.true c.part-ends.ensures c.skip.ensures (λ line holds. c.keep.ensures.holds line holds)
