use Rattle.std.proofs.Common.{Bool, subst}
use Rattle.live_site.specs.Rounds.{BeginsAgain}
use Rattle.serve_engine.specs.Together.{failed_texts}
use Rattle.serve_engine.proofs.BlockLemmas.{tells_last}
use Rattle.serve_engine.proofs.HoldLemmas.{at_same, begins_anew, begun_same, stays_stopped}
use Rattle.serve_engine.proofs.rounds.serve_singly.Goals as goal

pub returns-then-not-begin_again-clause-served : goal.returns-then-not-begin_again-clause-served
returns-then-not-begin_again-clause-served g c = λ s behind n at u.
    let live = c.args.live in
    let after = c.begin_again.new.self in
    let now = c.args.conversation.now in
    let round = c.args.round.now in
    tells_last g.K.Keeper g.K.LiveKeeper.is_outdated g.C.Conversation s after now n behind (failed_texts round) c.tell_fault-turned.new.conversation c.tell_fault-turned.result
    (stays_stopped g.K.Keeper g.K.LiveKeeper.is_outdated g.C.Conversation s live after now round behind n u (subst (λ (b : Bool). BeginsAgain g.K.Keeper live after b) c.if-not-begin_again.true c.begin_again.ensures)) c.tell_fault-turned.ensures.told

pub returns-clause-served : goal.returns-clause-served
returns-clause-served g c = λ s behind n at u.
    let live = c.args.live in
    let after = c.begin_again.new.self in
    let now = c.args.conversation.now in
    let round = c.args.round.now in
    let same = begun_same g.K.Keeper live after c.begin_again.result c.begin_again.ensures in
    let begun = subst (λ (b : Bool). BeginsAgain g.K.Keeper live after b) c.if-not-begin_again.false c.begin_again.ensures in
    c.serve_each-turned.ensures.served s behind n (at_same s live after c.args.marker.now same.0 same.1 at)
    (begins_anew g.K.Keeper g.K.LiveKeeper.is_outdated g.C.Conversation s live after now round behind n u at.layout at.site begun.0 begun.1)
