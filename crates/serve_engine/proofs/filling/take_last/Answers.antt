use Rattle.std.proofs.Common.{◌∙◌, ℕ, List, ap, subst}
use Rattle.line_conversation.specs.Turns.{Whole}
use Rattle.serve_engine.specs.Filling.{IsUndone}
use Rattle.serve_engine.proofs.TakeLemmas.{taken_alone, taken_broken, taken_in}
use Rattle.serve_engine.proofs.filling.take_last.Goals as goal

pub returns-in-In-clause-filled : goal.returns-in-In-clause-filled
returns-in-In-clause-filled g c = λ terms a k talk turns n are f.
    let now = c.args.conversation.now in
    let placed = c.in-In.ensures.placed terms a k f.exchanges are f.fills in
    taken_in g.K.Keeper g.B.Base.base g.C.Conversation terms a k talk turns c.args.held.now c.args.round.now now (g.C.Conversation.kept now) n f c.place_line.new.held c.place_line.new.round
    placed.0 (placed.1 ∙ ap (λ (l : List ℕ). Whole l) c.line.ensures) placed.2

pub returns-in-Alone-clause-filled : goal.returns-in-Alone-clause-filled
returns-in-Alone-clause-filled g c = λ terms a k talk turns n are f.
    let now = c.args.conversation.now in
    taken_alone g.K.Keeper g.B.Base.base g.C.Conversation terms a k talk turns c.args.held.now c.args.round.now now (g.C.Conversation.kept now) n f c.place_line.new.held c.place_line.new.round
    (c.in-Alone.ensures.placed terms a k f.exchanges are f.fills)

pub returns-in-Unanswered-clause-filled : goal.returns-in-Unanswered-clause-filled
returns-in-Unanswered-clause-filled g c = λ terms a k talk turns n are f.
    let now = c.args.conversation.now in
    taken_broken g.K.Keeper g.B.Base.base g.C.Conversation terms a k talk turns c.args.held.now c.args.round.now now (g.C.Conversation.kept now) n f c.place_line.new.held c.place_line.new.round
    (subst (λ (l : List ℕ). IsUndone g.K.Keeper g.B.Base.base terms a k c.place_line.new.held c.place_line.new.round f.exchanges l) c.line.ensures (c.in-Unanswered.ensures.placed terms a k f.exchanges are f.fills))
