use Rattle.std.proofs.Common.{sym, ◌∙◌}
use Rattle.serve_engine.proofs.BlockLemmas.{no_bytes, told_none, told_whole}
use Rattle.serve_engine.proofs.rounds.tell_some.Goals as goal

pub returns-then-is_empty-clause-told : goal.returns-then-is_empty-clause-told
returns-then-is_empty-clause-told g c = told_none g.C.Conversation c.args.conversation.now c.args.text.now (no_bytes c.args.text.now (sym c.is_empty.ensures ∙ c.if-is_empty.true))

pub returns-clause-told : goal.returns-clause-told
returns-clause-told g c = told_whole g.C.Conversation c.args.conversation.now c.tell.new.conversation c.args.text.now c.tell.result c.tell.ensures.told
