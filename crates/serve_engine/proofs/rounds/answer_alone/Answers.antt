use Rattle.serve_engine.proofs.AloneLemmas.{heard_alone}
use Rattle.serve_engine.proofs.rounds.answer_alone.Goals as goal

pub returns-clause-answered : goal.returns-clause-answered
returns-clause-answered g c = λ s n at b.
    heard_alone g.K.Keeper g.K.LiveKeeper.is_outdated g.C.Conversation s _ (λ l none. none) c.args.live.now c.answer_line.new.live _ _ c.args.conversation.now c.answer_line.new.conversation n
    (g.C.Conversation.kept c.args.conversation.now) c.answer_line.result c.answer_line.ensures.honest b (c.answer_line.ensures.answered s.terms b.site.standing at.terms b.site.stands)
