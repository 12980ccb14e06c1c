use Rattle.std.proofs.Common.{rules}
use Rattle.log_replay.proofs.StreamLemmas.{doubt_ends, doubt_refused}
use Rattle.log_replay.proofs.stream.doubted.Goals as goal

pub returns-then-branch-clause-answer : goal.returns-then-branch-clause-answer
returns-then-branch-clause-answer c = λ a stood.
    doubt_ends a c.args.core.now c.may_end.new.core _ c.args.entry c.in_ok-may_end.field-0 (search rules) stood c.in_ok-may_end.ensures.content c.in_ok-may_end.ensures.answer c.if-branch.true
