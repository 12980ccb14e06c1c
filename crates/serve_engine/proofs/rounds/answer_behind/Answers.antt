use Rattle.std.proofs.Common.{[], subst}
use Rattle.serve_engine.specs.declared.filling.Behind.{Behind}
use Rattle.serve_engine.specs.Together.{InBlock, lines_behind}
use Rattle.serve_engine.proofs.AloneLemmas.{no_room_behind, too_long_behind}
use Rattle.serve_engine.proofs.rounds.answer_behind.Goals as goal

pub returns-in-Nothing-clause-answered : goal.returns-in-Nothing-clause-answered
returns-in-Nothing-clause-answered g c = λ s n at b.
    subst (λ (k : Behind). InBlock g.K.Keeper g.K.LiveKeeper.is_outdated g.C.Conversation s c.args.live c.args.conversation.now (lines_behind k (g.C.Conversation.kept c.args.conversation.now)) [] n) c.in-Nothing.is b

pub returns-in-Alone-clause-answered : goal.returns-in-Alone-clause-answered
returns-in-Alone-clause-answered g c = λ s n at b.
    c.answer_alone-turned.ensures.answered s n at
    (subst (λ (k : Behind). InBlock g.K.Keeper g.K.LiveKeeper.is_outdated g.C.Conversation s c.args.live c.args.conversation.now (lines_behind k (g.C.Conversation.kept c.args.conversation.now)) [] n) c.in-Alone.is b)

pub returns-in-TooLong-clause-answered : goal.returns-in-TooLong-clause-answered
returns-in-TooLong-clause-answered g c = λ s n at b.
    too_long_behind g.K.Keeper g.K.LiveKeeper.is_outdated g.C.Conversation s c.args.live c.args.conversation.now c.answer_other.new.conversation n c.answer_other.result
    (subst (λ (k : Behind). InBlock g.K.Keeper g.K.LiveKeeper.is_outdated g.C.Conversation s c.args.live c.args.conversation.now (lines_behind k (g.C.Conversation.kept c.args.conversation.now)) [] n) c.in-TooLong.is b) c.answer_other.ensures

pub returns-in-Memory-clause-answered : goal.returns-in-Memory-clause-answered
returns-in-Memory-clause-answered g c = λ s n at b.
    no_room_behind g.K.Keeper g.K.LiveKeeper.is_outdated g.C.Conversation s c.args.live c.args.conversation.now c.answer_other-in-Memory.new.conversation n c.answer_other-in-Memory.result
    (subst (λ (k : Behind). InBlock g.K.Keeper g.K.LiveKeeper.is_outdated g.C.Conversation s c.args.live c.args.conversation.now (lines_behind k (g.C.Conversation.kept c.args.conversation.now)) [] n) c.in-Memory.is b) c.answer_other-in-Memory.ensures
