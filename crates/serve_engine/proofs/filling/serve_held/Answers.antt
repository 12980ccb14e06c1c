use Rattle.std.proofs.Common.{◌≡◌, ◌∙◌, ◌∷◌, [], ℕ, sym, ap, subst}
use Rattle.admission_model.specs.Account.{Account}
use Rattle.admission_core.specs.Core.{Stands}
use Rattle.admission_core.specs.Kept.{durable_of}
use Rattle.line_conversation.specs.Turns.{Whole}
use Rattle.live_site.specs.Live.{LiveState}
use Rattle.round_keeper.specs.Staged.{StagedState}
use Rattle.serve_engine.specs.Rounds.{AreFew}
use Rattle.serve_engine.specs.Filling.{RoundState}
use Rattle.serve_engine.specs.Together.{IsFilling, lines_behind}
use Rattle.serve_engine.proofs.EndLemmas.{terms_there}
use Rattle.serve_engine.proofs.FillingLemmas.{ok_more}
use Rattle.serve_engine.proofs.HoldLemmas.{begins_round, ends_round, undone_round}
use Rattle.serve_engine.proofs.filling.serve_held.Goals as goal

pub returns-in-None-clause-held : goal.returns-in-None-clause-held
returns-in-None-clause-held g c = λ s n at most h.
    let old = c.args.live in
    let before = c.args.conversation.now in
    let line = g.C.Conversation.kept before in
    let base = g.B.Base.base in
    let a = h.site.account in
    let running = c.requires.running in
    let sound = c.hold-held.ensures.no_fault running in
    let is_base : base ≡ durable_of a = c.requires.base a (subst (λ (b : Account). Stands b old.core) (h.site.same running) h.site.stands) in
    let began = c.hold-held.result in
    let same = c.hold-held.ensures.site in
    let held = c.fill_round.new.held in
    let now = c.fill_round.new.conversation in
    let round = c.fill_round.new.round in
    let begins =
    subst (λ (r : RoundState). IsFilling g.K.Keeper base g.C.Conversation s.terms a old.keeper began r s.talk h.turns before (Whole line ∷ []) 1) (sym c.requires.empty)
    (begins_round g.K.Keeper g.K.LiveKeeper.is_outdated g.C.Conversation s base old n before line running sound h is_base began same) in
    let here = terms_there s.terms c.args.marker.now (ap (λ (l : LiveState (StagedState g.row.K.Denot)). l.core.layout) same) at.terms in
    let filled = c.in-None.ensures.filled s.terms a old.keeper s.talk h.turns here begins in
    undone_round g.K.Keeper g.K.LiveKeeper.is_outdated g.C.Conversation s base old n before line running sound h is_base held now round filled.0 (subst (λ (j : ℕ). AreFew j filled.0) (sym most) filled.1)
    c.drop_staged.result filled.2 c.drop_staged.ensures
    (λ honest. subst (λ (l : LiveState (StagedState g.row.K.Denot)). g.K.Keeper.is_honest l.keeper.keeper) same (c.fill_round.ensures.honest honest))

pub returns-in-Some-clause-held : goal.returns-in-Some-clause-held
returns-in-Some-clause-held g c = λ s n at most h.
    let old = c.args.live in
    let before = c.args.conversation.now in
    let line = g.C.Conversation.kept before in
    let base = g.B.Base.base in
    let a = h.site.account in
    let running = c.requires.running in
    let sound = c.hold-held.ensures.no_fault running in
    let is_base : base ≡ durable_of a = c.requires.base a (subst (λ (b : Account). Stands b old.core) (h.site.same running) h.site.stands) in
    let began = c.hold-held.result in
    let same = c.hold-held.ensures.site in
    let held = c.fill_round.new.held in
    let now = c.fill_round.new.conversation in
    let round = c.fill_round.new.round in
    let begins =
    subst (λ (r : RoundState). IsFilling g.K.Keeper base g.C.Conversation s.terms a old.keeper began r s.talk h.turns before (Whole line ∷ []) 1) (sym c.requires.empty)
    (begins_round g.K.Keeper g.K.LiveKeeper.is_outdated g.C.Conversation s base old n before line running sound h is_base began same) in
    let here = terms_there s.terms c.args.marker.now (ap (λ (l : LiveState (StagedState g.row.K.Denot)). l.core.layout) same) at.terms in
    let filled = c.in-Some.ensures.filled s.terms a old.keeper s.talk h.turns here begins in
    let done = c.commit_staged-live.ensures in
    ends_round g.K.Keeper g.K.LiveKeeper.is_outdated g.C.Conversation s base old n before line running sound h is_base held now round filled.0 (subst (λ (j : ℕ). AreFew j filled.0) (sym most) filled.1)
    c.commit_staged-live.result.0 (lines_behind c.in-Some.behind (g.C.Conversation.kept now)) filled.2 done.core
    (λ honest. subst (λ (l : LiveState (StagedState g.row.K.Denot)). g.K.Keeper.is_honest l.keeper.keeper) same (c.fill_round.ensures.honest (done.honest honest)))
    c.commit_staged-live.result.1 done.ok done.memory done.fault done.serves done.stops done.nothing

pub returns-in-Some-clause-running : goal.returns-in-Some-clause-running
returns-in-Some-clause-running g c =
    ok_more c.commit_staged-live.result.1 _ _ c.commit_staged-live.ensures.serves
    (λ same. same ∙ c.in-Some.ensures.running (ap (λ (l : LiveState (StagedState g.row.K.Denot)). l.frozen) c.hold-held.ensures.site ∙ c.requires.running))
