use Rattle.serve_engine.proofs.BlockLemmas.{failed_then, told_then}
use Rattle.serve_engine.proofs.rounds.tell_answers.Goals as goal

pub returns-in-Failed-clause-told : goal.returns-in-Failed-clause-told
returns-in-Failed-clause-told g c =
    failed_then g.C.Conversation c.args.conversation.now c.tell_some.new.conversation c.args.round.now.sure c.args.round.now.waiting (rw c.sure.ensures at c.in-Failed.ensures.told)

pub returns-in-Next-clause-told : goal.returns-in-Next-clause-told
returns-in-Next-clause-told g c =
    told_then g.C.Conversation c.args.conversation.now c.tell_some.new.conversation c.tell_some-in-Next.new.conversation c.args.round.now.sure c.args.round.now.waiting c.tell_some-in-Next.result
    (rw c.sure.ensures at c.in-Next.ensures.told) (rw c.waiting.ensures at c.tell_some-in-Next.ensures.told)
