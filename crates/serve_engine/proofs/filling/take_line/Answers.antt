use Rattle.std.proofs.Common.{◌+◌, ◌≤◌, ◌∙◌, [], ℕ, List, ap, arith, subst, sym}
use Rattle.line_conversation.specs.Turns.{Whole}
use Rattle.serve_engine.specs.declared.filling.Taken.{Taken}
use Rattle.serve_engine.specs.Filling.{IsUndone}
use Rattle.serve_engine.specs.Together.{TakesLine}
use Rattle.serve_engine.proofs.TakeLemmas.{broken_room, more_room, taken_alone, taken_broken, taken_held, taken_in, taken_none}
use Rattle.serve_engine.proofs.filling.take_line.Goals as goal

pub returns-in-Alone-clause-taken : goal.returns-in-Alone-clause-taken
returns-in-Alone-clause-taken g c = λ terms a k talk turns n are f.
    let held = c.place_line.new.held in
    let round = c.place_line.new.round in
    let now = c.args.conversation.now in
    let less : n ≤ n + 1 = omega arith in
    more_room g.K.Keeper g.B.Base.base g.C.Conversation terms a k talk turns held round now _ n (n + 1) less
    (taken_alone g.K.Keeper g.B.Base.base g.C.Conversation terms a k talk turns c.args.held.now c.args.round.now now (g.C.Conversation.kept now) n f held round (c.in-Alone.ensures.placed terms a k f.exchanges are f.fills))

pub returns-in-Unanswered-clause-taken : goal.returns-in-Unanswered-clause-taken
returns-in-Unanswered-clause-taken g c = λ terms a k talk turns n are f.
    let held = c.place_line.new.held in
    let round = c.place_line.new.round in
    let now = c.args.conversation.now in
    let less : n ≤ n + 1 = omega arith in
    broken_room g.K.Keeper g.B.Base.base g.C.Conversation terms a k talk turns held round now n (n + 1) less
    (taken_broken g.K.Keeper g.B.Base.base g.C.Conversation terms a k talk turns c.args.held.now c.args.round.now now (g.C.Conversation.kept now) n f held round
    (subst (λ (l : List ℕ). IsUndone g.K.Keeper g.B.Base.base terms a k held round f.exchanges l) c.line.ensures (c.in-Unanswered.ensures.placed terms a k f.exchanges are f.fills)))

pub returns-then-bytes-gt-MOST_BYTES-clause-taken : goal.returns-then-bytes-gt-MOST_BYTES-clause-taken
returns-then-bytes-gt-MOST_BYTES-clause-taken g c = λ terms a k talk turns n are f.
    let held = c.place_line.new.held in
    let round = c.place_line.new.round in
    let now = c.args.conversation.now in
    let placed = c.in-In.ensures.placed terms a k f.exchanges are f.fills in
    let less : n ≤ n + 1 = omega arith in
    more_room g.K.Keeper g.B.Base.base g.C.Conversation terms a k talk turns held round now [] n (n + 1) less
    (taken_in g.K.Keeper g.B.Base.base g.C.Conversation terms a k talk turns c.args.held.now c.args.round.now now (g.C.Conversation.kept now) n f held round
    placed.0 (placed.1 ∙ ap (λ (l : List ℕ). Whole l) c.line.ensures) placed.2)

pub returns-in-Some-clause-taken : goal.returns-in-Some-clause-taken
returns-in-Some-clause-taken g c = λ terms a k talk turns n are f.
    let held = c.place_line.new.held in
    let round = c.place_line.new.round in
    let now = c.args.conversation.now in
    let after = c.next_held.new.self in
    let placed = c.in-In.ensures.placed terms a k f.exchanges are f.fills in
    subst (λ (t : Taken). TakesLine g.K.Keeper g.B.Base.base g.C.Conversation terms a k held round talk turns after (n + 1) t) (sym c.taken_by.ensures)
    (taken_held g.K.Keeper g.B.Base.base g.C.Conversation terms a k talk turns held round now after c.in-Some.next n c.in-Some.ensures.line
    (taken_in g.K.Keeper g.B.Base.base g.C.Conversation terms a k talk turns c.args.held.now c.args.round.now now (g.C.Conversation.kept now) n f held round
    placed.0 (placed.1 ∙ ap (λ (l : List ℕ). Whole l) c.line.ensures) placed.2)
    (λ first before took. c.in-Some.ensures.heard first before took) c.in-Some.ensures.whole)

pub returns-in-None-clause-taken : goal.returns-in-None-clause-taken
returns-in-None-clause-taken g c = λ terms a k talk turns n are f.
    let held = c.place_line.new.held in
    let round = c.place_line.new.round in
    let now = c.args.conversation.now in
    let placed = c.in-In.ensures.placed terms a k f.exchanges are f.fills in
    taken_none g.K.Keeper g.B.Base.base g.C.Conversation terms a k talk turns held round now c.next_held.new.self n
    (taken_in g.K.Keeper g.B.Base.base g.C.Conversation terms a k talk turns c.args.held.now c.args.round.now now (g.C.Conversation.kept now) n f held round
    placed.0 (placed.1 ∙ ap (λ (l : List ℕ). Whole l) c.line.ensures) placed.2)
    (c.next_held.ensures.none c.in-None.is)
