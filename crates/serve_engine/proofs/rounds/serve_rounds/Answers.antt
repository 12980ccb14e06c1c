use Rattle.std.proofs.Common.{◌≤◌, ◌∙◌, ap, arith, refl, sym, subst}
use Rattle.admission_core.specs.Kept.{durable_of}
use Rattle.exit_status.specs.declared.status.Status.{Status}
use Rattle.serve_engine.specs.declared.turns.Turned.{Turned}
use Rattle.serve_engine.specs.Rounds.{EndsSiteTogether}
use Rattle.serve_engine.specs.Together.{IsAt, Start, TurnsTogether}
use Rattle.live_site.specs.Live.{LiveState}
use Rattle.serve_engine.proofs.AloneLemmas.{block_turn}
use Rattle.serve_engine.proofs.EndLemmas.{terms_there}
use Rattle.serve_engine.proofs.HoldLemmas.{at_same}
use Rattle.serve_engine.proofs.TogetherLemmas.{ended_counted, ended_early, ended_well, heard_none, start_at, turned_same}
use Rattle.serve_engine.proofs.rounds.serve_rounds.Goals as goal
use Rattle.serve_engine.proofs.rounds.serve_rounds.Goals.{in-Some, in-None}

pub loop-count-init : goal.loop-count-init
loop-count-init g c = record {
  heard = λ terms a are stands.
      heard_none g.K.Keeper g.K.LiveKeeper.is_outdated g.C.Conversation c.args.most terms c.args.live.core.layout c.args.live.core.site a c.args.live c.args.conversation.now c.requires stands (g.met.C.Conversation.begins c.args.conversation.now);
  layout = refl;
  site = refl;
  honest = λ honest. honest;
}

pub loop-count-preserved : goal.loop-count-preserved
loop-count-preserved g c = record {
  heard = λ terms a are stands.
      let l = c.loop-count in
      let start : Start g.row.K.Denot g.row.C.Denot = start_at g.K.Keeper g.K.LiveKeeper.is_outdated g.C.Conversation c.args.most terms c.args.live.core.layout c.args.live.core.site a c.args.live c.args.conversation.now in
      let at : IsAt start l.live c.args.marker.now = record { terms = terms_there terms c.args.marker.now l.invariant.layout are; layout = l.invariant.layout; site = l.invariant.site } in
      let m = c.match-take_alone in
      let taken = c.take_alone.new in
      let turned : TurnsTogether g.K.Keeper g.K.LiveKeeper.is_outdated g.C.Conversation start m.live m.conversation l.count m.turned = elim m.branch [
        | in-Some w ↦ turned_same g.K.Keeper g.K.LiveKeeper.is_outdated g.C.Conversation start taken.live m.live taken.conversation m.conversation l.count w.in-Some.turned m.turned w.live-is w.conversation-is w.turned-is
            (w.in-Some.ensures.taken start l.count at (l.invariant.heard terms a are stands))
        | in-None w ↦
            let r = w.answer_round-after in
            turned_same g.K.Keeper g.K.LiveKeeper.is_outdated g.C.Conversation start r.result.0 m.live r.new.conversation m.conversation l.count r.result.1 m.turned w.live-is w.conversation-is w.turned-is
            (block_turn g.K.Keeper g.K.LiveKeeper.is_outdated g.C.Conversation start r.result.0 taken.conversation r.new.conversation l.count r.result.1
            (r.ensures.answered start l.count (at_same start l.live taken.live c.args.marker.now c.take_alone.ensures.layout c.take_alone.ensures.site at) refl
            (w.in-None.ensures.taken start l.count at (l.invariant.heard terms a are stands))))
      ] in
      let turned = subst (λ (t : Turned). TurnsTogether g.K.Keeper g.K.LiveKeeper.is_outdated g.C.Conversation start m.live m.conversation l.count t) c.in-Next.is turned in
      turned;
  layout = elim c.match-take_alone.branch [
    | in-Some w ↦ ap (λ (s : LiveState g.row.K.Denot). s.core.layout) w.live-is ∙ (c.take_alone.ensures.layout ∙ c.loop-count.invariant.layout)
    | in-None w ↦ ap (λ (s : LiveState g.row.K.Denot). s.core.layout) w.live-is ∙ (w.answer_round-after.ensures.layout ∙ (c.take_alone.ensures.layout ∙ c.loop-count.invariant.layout))
  ];
  site = elim c.match-take_alone.branch [
    | in-Some w ↦ ap (λ (s : LiveState g.row.K.Denot). s.core.site) w.live-is ∙ (c.take_alone.ensures.site ∙ c.loop-count.invariant.site)
    | in-None w ↦ ap (λ (s : LiveState g.row.K.Denot). s.core.site) w.live-is ∙ (w.answer_round-after.ensures.site ∙ (c.take_alone.ensures.site ∙ c.loop-count.invariant.site))
  ];
  honest = elim c.match-take_alone.branch [
    | in-Some w ↦ λ honest. c.loop-count.invariant.honest (c.take_alone.ensures.honest (subst (λ (s : LiveState g.row.K.Denot). g.K.Keeper.is_honest s.keeper) w.live-is honest))
    | in-None w ↦ λ honest. c.loop-count.invariant.honest (c.take_alone.ensures.honest (w.answer_round-after.ensures.honest (subst (λ (s : LiveState g.row.K.Denot). g.K.Keeper.is_honest s.keeper) w.live-is honest)))
  ];
}

pub returns-in-End-clause-ended : goal.returns-in-End-clause-ended
returns-in-End-clause-ended g c = λ terms a are stands.
    let l = c.loop-count in
    let start : Start g.row.K.Denot g.row.C.Denot = start_at g.K.Keeper g.K.LiveKeeper.is_outdated g.C.Conversation c.args.most terms c.args.live.core.layout c.args.live.core.site a c.args.live c.args.conversation.now in
    let at : IsAt start l.live c.args.marker.now = record { terms = terms_there terms c.args.marker.now l.invariant.layout are; layout = l.invariant.layout; site = l.invariant.site } in
    let m = c.match-take_alone in
    let taken = c.take_alone.new in
    let turned : TurnsTogether g.K.Keeper g.K.LiveKeeper.is_outdated g.C.Conversation start m.live m.conversation l.count m.turned = elim m.branch [
      | in-Some w ↦ turned_same g.K.Keeper g.K.LiveKeeper.is_outdated g.C.Conversation start taken.live m.live taken.conversation m.conversation l.count w.in-Some.turned m.turned w.live-is w.conversation-is w.turned-is
          (w.in-Some.ensures.taken start l.count at (l.invariant.heard terms a are stands))
      | in-None w ↦
          let r = w.answer_round-after in
          turned_same g.K.Keeper g.K.LiveKeeper.is_outdated g.C.Conversation start r.result.0 m.live r.new.conversation m.conversation l.count r.result.1 m.turned w.live-is w.conversation-is w.turned-is
          (block_turn g.K.Keeper g.K.LiveKeeper.is_outdated g.C.Conversation start r.result.0 taken.conversation r.new.conversation l.count r.result.1
          (r.ensures.answered start l.count (at_same start l.live taken.live c.args.marker.now c.take_alone.ensures.layout c.take_alone.ensures.site at) refl
          (w.in-None.ensures.taken start l.count at (l.invariant.heard terms a are stands))))
    ] in
    let turned = subst (λ (t : Turned). TurnsTogether g.K.Keeper g.K.LiveKeeper.is_outdated g.C.Conversation start m.live m.conversation l.count t) c.in-End.is turned in
    subst (λ (x : Status). EndsSiteTogether g.K.Keeper g.K.LiveKeeper.is_outdated g.C.Conversation c.args.most terms c.args.live.core.layout c.args.live.core.site a (durable_of a) c.args.live.keeper m.live.keeper c.args.conversation.now m.conversation x)
    (sym c.ended-ended.ensures) (ended_well g.K.Keeper g.K.LiveKeeper.is_outdated g.C.Conversation start m.live m.conversation l.count turned.0 turned.1)

pub returns-in-Failed-clause-ended : goal.returns-in-Failed-clause-ended
returns-in-Failed-clause-ended g c = λ terms a are stands.
    let l = c.loop-count in
    let start : Start g.row.K.Denot g.row.C.Denot = start_at g.K.Keeper g.K.LiveKeeper.is_outdated g.C.Conversation c.args.most terms c.args.live.core.layout c.args.live.core.site a c.args.live c.args.conversation.now in
    let at : IsAt start l.live c.args.marker.now = record { terms = terms_there terms c.args.marker.now l.invariant.layout are; layout = l.invariant.layout; site = l.invariant.site } in
    let m = c.match-take_alone in
    let taken = c.take_alone.new in
    let turned : TurnsTogether g.K.Keeper g.K.LiveKeeper.is_outdated g.C.Conversation start m.live m.conversation l.count m.turned = elim m.branch [
      | in-Some w ↦ turned_same g.K.Keeper g.K.LiveKeeper.is_outdated g.C.Conversation start taken.live m.live taken.conversation m.conversation l.count w.in-Some.turned m.turned w.live-is w.conversation-is w.turned-is
          (w.in-Some.ensures.taken start l.count at (l.invariant.heard terms a are stands))
      | in-None w ↦
          let r = w.answer_round-after in
          turned_same g.K.Keeper g.K.LiveKeeper.is_outdated g.C.Conversation start r.result.0 m.live r.new.conversation m.conversation l.count r.result.1 m.turned w.live-is w.conversation-is w.turned-is
          (block_turn g.K.Keeper g.K.LiveKeeper.is_outdated g.C.Conversation start r.result.0 taken.conversation r.new.conversation l.count r.result.1
          (r.ensures.answered start l.count (at_same start l.live taken.live c.args.marker.now c.take_alone.ensures.layout c.take_alone.ensures.site at) refl
          (w.in-None.ensures.taken start l.count at (l.invariant.heard terms a are stands))))
    ] in
    let turned = subst (λ (t : Turned). TurnsTogether g.K.Keeper g.K.LiveKeeper.is_outdated g.C.Conversation start m.live m.conversation l.count t) c.in-Failed.is turned in
    ended_early g.K.Keeper g.K.LiveKeeper.is_outdated g.C.Conversation start m.live m.conversation turned

pub returns-clause-ended : goal.returns-clause-ended
returns-clause-ended g c = λ terms a are stands.
    let l = c.loop-count in
    let start : Start g.row.K.Denot g.row.C.Denot = start_at g.K.Keeper g.K.LiveKeeper.is_outdated g.C.Conversation c.args.most terms c.args.live.core.layout c.args.live.core.site a c.args.live c.args.conversation.now in
    let many : 18446744073709551615 ≤ l.count = omega (arith, c.loop-count-test.false) in
    ended_counted g.K.Keeper g.K.LiveKeeper.is_outdated g.C.Conversation start l.live l.conversation l.count (l.invariant.heard terms a are stands) many
