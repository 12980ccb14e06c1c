use Rattle.std.proofs.Common.{◌∙◌, ◌++◌, Err, ap, subst}
use Rattle.std.specs.Prelude.{Result}
use Rattle.durable_keeper.specs.declared.error.KeeperError.{KeeperError}
use Rattle.serve_engine.specs.Together.{HoldsRound, failed_texts}
use Rattle.serve_engine.proofs.BlockLemmas.{tells_last}
use Rattle.serve_engine.proofs.rounds.end_round.Goals as goal

pub returns-in-Ok-clause-told : goal.returns-in-Ok-clause-told
returns-in-Ok-clause-told g c = λ s behind n at h.
    let now = c.args.conversation.now in
    let round = c.args.round.now in
    tells_last g.K.Keeper g.K.LiveKeeper.is_outdated g.C.Conversation s c.args.live now n behind (round.sure ++ round.waiting) c.tell_answers.new.conversation c.tell_answers.result
    (subst (λ (r : Result (Unit {0}) KeeperError). HoldsRound g.K.Keeper g.K.LiveKeeper.is_outdated g.C.Conversation s c.args.live now round behind n r) c.in-Ok.is h) c.tell_answers.ensures.told

pub returns-in-Err-Memory-clause-told : goal.returns-in-Err-Memory-clause-told
returns-in-Err-Memory-clause-told g c = λ s behind n at h.
    let now = c.args.conversation.now in
    let round = c.args.round.now in
    c.serve_singly.ensures.served s behind n at
    (subst (λ (r : Result (Unit {0}) KeeperError). HoldsRound g.K.Keeper g.K.LiveKeeper.is_outdated g.C.Conversation s c.args.live now round behind n r) (c.in-Err-Memory.is ∙ ap Err (rw c.in-Err-Memory.is at c.in-Err-Memory.field-0-is)) h)

pub returns-in-Err-StoreFault-clause-told : goal.returns-in-Err-StoreFault-clause-told
returns-in-Err-StoreFault-clause-told g c = λ s behind n at h.
    let now = c.args.conversation.now in
    let round = c.args.round.now in
    tells_last g.K.Keeper g.K.LiveKeeper.is_outdated g.C.Conversation s c.args.live now n behind (failed_texts round) c.tell_fault.new.conversation c.tell_fault.result
    (subst (λ (r : Result (Unit {0}) KeeperError). HoldsRound g.K.Keeper g.K.LiveKeeper.is_outdated g.C.Conversation s c.args.live now round behind n r) (c.in-Err-StoreFault.is ∙ ap Err (rw c.in-Err-StoreFault.is at c.in-Err-StoreFault.field-0-is)) h) c.tell_fault.ensures.told
