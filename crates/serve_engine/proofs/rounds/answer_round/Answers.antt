use Rattle.std.proofs.Common.{[], ℕ, List, subst, sym}
use Rattle.serve_engine.specs.declared.turns.Turned.{Turned}
use Rattle.serve_engine.specs.Together.{BlockTo, InBlock, lines_behind}
use Rattle.serve_engine.proofs.HoldLemmas.{at_same, durable_there}
use Rattle.serve_engine.proofs.rounds.answer_round.Goals as goal

pub serve_held-live-requires-clause-base : goal.serve_held-live-requires-clause-base
serve_held-live-requires-clause-base g c = λ a stands. durable_there a c.args.live.core stands

pub returns-in-Next-clause-answered : goal.returns-in-Next-clause-answered
returns-in-Next-clause-answered g c = λ s n at most h.
    let marker = c.args.marker.now in
    let held = c.serve_held-live.result.0 in
    let behind = c.serve_held-live.result.1 in
    let heard = c.serve_held-live.new.conversation in
    let ended = c.end_round-live.result.0 in
    let told = c.end_round-live.new.conversation in
    let at_held = at_same s c.args.live held marker c.serve_held-live.ensures.layout c.serve_held-live.ensures.site at in
    let lines = lines_behind behind (g.C.Conversation.kept heard) in
    let turned = subst (λ (t : Turned). BlockTo g.K.Keeper g.K.LiveKeeper.is_outdated g.C.Conversation s ended told lines [] n t) c.in-Next.is (c.end_round-live.ensures.told s lines n at_held (c.serve_held-live.ensures.held s n at most h)) in
    c.answer_behind.ensures.answered s n (at_same s held ended marker c.end_round-live.ensures.layout c.end_round-live.ensures.site at_held)
    (subst (λ (l : List ℕ). InBlock g.K.Keeper g.K.LiveKeeper.is_outdated g.C.Conversation s ended told (lines_behind behind l) [] n) (sym c.end_round-live.ensures.line) turned)

pub returns-in-Failed-clause-answered : goal.returns-in-Failed-clause-answered
returns-in-Failed-clause-answered g c = λ s n at most h.
    let marker = c.args.marker.now in
    let held = c.serve_held-live.result.0 in
    let behind = c.serve_held-live.result.1 in
    let heard = c.serve_held-live.new.conversation in
    let ended = c.end_round-live.result.0 in
    let told = c.end_round-live.new.conversation in
    let at_held = at_same s c.args.live held marker c.serve_held-live.ensures.layout c.serve_held-live.ensures.site at in
    let lines = lines_behind behind (g.C.Conversation.kept heard) in
    let turned = subst (λ (t : Turned). BlockTo g.K.Keeper g.K.LiveKeeper.is_outdated g.C.Conversation s ended told lines [] n t) c.in-Failed.is (c.end_round-live.ensures.told s lines n at_held (c.serve_held-live.ensures.held s n at most h)) in
    turned

pub returns-in-End-clause-answered : goal.returns-in-End-clause-answered
returns-in-End-clause-answered g c = λ s n at most h.
    let marker = c.args.marker.now in
    let held = c.serve_held-live.result.0 in
    let behind = c.serve_held-live.result.1 in
    let heard = c.serve_held-live.new.conversation in
    let ended = c.end_round-live.result.0 in
    let told = c.end_round-live.new.conversation in
    let at_held = at_same s c.args.live held marker c.serve_held-live.ensures.layout c.serve_held-live.ensures.site at in
    let lines = lines_behind behind (g.C.Conversation.kept heard) in
    let turned = subst (λ (t : Turned). BlockTo g.K.Keeper g.K.LiveKeeper.is_outdated g.C.Conversation s ended told lines [] n t) c.in-End.is (c.end_round-live.ensures.told s lines n at_held (c.serve_held-live.ensures.held s n at most h)) in
    turned
