use Rattle.line_conversation.specs.Turns.{TooLong, NoRoom, Torn}
use Rattle.serve_engine.specs.Answers.{bad_word_line, memory_line, too_long_line}
use Rattle.serve_engine.specs.Exchanges.{Exchange, told_no_room, told_torn, told_too_long, still_no_room, still_torn, still_too_long}
use Rattle.serve_engine.proofs.ExchangeLemmas.{plain}
use Rattle.serve_engine.proofs.TurnLemmas.{line_turn, told_turn}
use Rattle.serve_engine.proofs.turns.take_turn.Goals as goal

pub returns-in-Line-clause-turned : goal.returns-in-Line-clause-turned
returns-in-Line-clause-turned g c = λ terms a first keeper talk began n are w.
    line_turn g.K.Keeper g.K.LiveKeeper.is_outdated g.C.Conversation g.L.CallLog terms a first keeper talk began c.args.live.now c.answer_line.new.live
    c.next_line.new.self c.answer_line.new.conversation c.args.log.now c.answer_line.new.log (g.C.Conversation.kept c.next_line.new.self) w.exchanges w.entries n c.answer_line.result
    (c.in-Line.ensures.heard talk _ w.heard) w.logged w.counted w.site (λ lost. w.whole (c.in-Line.ensures.whole lost)) (c.answer_line.ensures.answered terms w.site.account are w.site.stands)

pub returns-in-TooLong-clause-turned : goal.returns-in-TooLong-clause-turned
returns-in-TooLong-clause-turned g c = λ terms a first keeper talk began n are w.
    let x : Exchange = record { line = TooLong; told = too_long_line } in
    told_turn g.K.Keeper g.K.LiveKeeper.is_outdated g.C.Conversation g.L.CallLog terms a first keeper talk began c.args.live.now c.args.live.now
    c.next_line.new.self c.tell.new.conversation c.args.log.now c.args.log.now w.exchanges w.entries x n c.tell.result
    (c.in-TooLong.ensures.heard talk _ w.heard) w.logged w.counted w.site (λ lost. w.whole (c.in-TooLong.ensures.whole lost))
    (plain g.K.Keeper g.K.LiveKeeper.is_outdated g.L.CallLog terms w.site.account c.args.live.now c.args.log.now x w.site.stands (told_too_long terms w.site.account) (still_too_long terms)) c.tell.ensures.told

pub returns-in-Memory-clause-turned : goal.returns-in-Memory-clause-turned
returns-in-Memory-clause-turned g c = λ terms a first keeper talk began n are w.
    let x : Exchange = record { line = NoRoom; told = memory_line } in
    told_turn g.K.Keeper g.K.LiveKeeper.is_outdated g.C.Conversation g.L.CallLog terms a first keeper talk began c.args.live.now c.args.live.now
    c.next_line.new.self c.tell-in-Memory.new.conversation c.args.log.now c.args.log.now w.exchanges w.entries x n c.tell-in-Memory.result
    (c.in-Memory.ensures.heard talk _ w.heard) w.logged w.counted w.site (λ lost. w.whole (c.in-Memory.ensures.whole lost))
    (plain g.K.Keeper g.K.LiveKeeper.is_outdated g.L.CallLog terms w.site.account c.args.live.now c.args.log.now x w.site.stands (told_no_room terms w.site.account) (still_no_room terms)) c.tell-in-Memory.ensures.told

pub returns-in-Torn-clause-turned : goal.returns-in-Torn-clause-turned
returns-in-Torn-clause-turned g c = λ terms a first keeper talk began n are w.
    let x : Exchange = record { line = Torn; told = bad_word_line } in
    told_turn g.K.Keeper g.K.LiveKeeper.is_outdated g.C.Conversation g.L.CallLog terms a first keeper talk began c.args.live.now c.args.live.now
    c.next_line.new.self c.tell-in-Torn.new.conversation c.args.log.now c.args.log.now w.exchanges w.entries x n c.tell-in-Torn.result
    (c.in-Torn.ensures.heard talk _ w.heard) w.logged w.counted w.site (λ lost. w.whole (c.in-Torn.ensures.whole lost))
    (plain g.K.Keeper g.K.LiveKeeper.is_outdated g.L.CallLog terms w.site.account c.args.live.now c.args.log.now x w.site.stands (told_torn terms w.site.account) (still_torn terms)) c.tell-in-Torn.ensures.told
