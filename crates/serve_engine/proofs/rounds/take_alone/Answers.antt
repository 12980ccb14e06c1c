use Rattle.std.proofs.Common.{◌∷◌, [], arith}
use Rattle.line_conversation.specs.Turns.{Whole}
use Rattle.line_conversation.specs.declared.conversation.Next.TheVariants as next
use Rattle.serve_engine.proofs.AloneLemmas.{block_turn, others_first}
use Rattle.serve_engine.proofs.BlockLemmas.{hears_next, to_block}
use Rattle.serve_engine.proofs.rounds.take_alone.Goals as goal

pub returns-in_default-clause-taken : goal.returns-in_default-clause-taken
returns-in_default-clause-taken g c = λ s n at h.
    let live = c.args.live.now in
    let now = c.next_line.new.self in
    let told = c.next_line.result in
    others_first g.K.Keeper g.K.LiveKeeper.is_outdated g.C.Conversation s live now c.answer_other.new.conversation n c.answer_other.result told (g.C.Conversation.kept now) c.in_default.not-Line c.next_line.ensures.ended c.next_line.ensures.failed
    (hears_next g.K.Keeper g.K.LiveKeeper.is_outdated g.C.Conversation s live c.args.conversation.now now n told h c.next_line.ensures.heard c.next_line.ensures.whole) c.answer_other.ensures

pub returns-then-not-is_alone-clause-taken : goal.returns-then-not-is_alone-clause-taken
returns-then-not-is_alone-clause-taken g c = λ s n at h.
    hears_next g.K.Keeper g.K.LiveKeeper.is_outdated g.C.Conversation s c.args.live.now c.args.conversation.now c.next_line.new.self n next.Line h c.in-Line.ensures.heard c.in-Line.ensures.whole

pub returns-clause-taken : goal.returns-clause-taken
returns-clause-taken g c = λ s n at h.
    let live = c.args.live.now in
    let now = c.next_line.new.self in
    block_turn g.K.Keeper g.K.LiveKeeper.is_outdated g.C.Conversation s c.answer_alone.new.live now c.answer_alone.new.conversation n c.answer_alone.result
    (c.answer_alone.ensures.answered s n at (to_block g.K.Keeper g.K.LiveKeeper.is_outdated g.C.Conversation s live now n (Whole (g.C.Conversation.kept now) ∷ []) (omega arith)
    (hears_next g.K.Keeper g.K.LiveKeeper.is_outdated g.C.Conversation s live c.args.conversation.now now n next.Line h c.in-Line.ensures.heard c.in-Line.ensures.whole)))
