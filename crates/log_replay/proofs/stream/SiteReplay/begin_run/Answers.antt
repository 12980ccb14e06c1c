use Rattle.std.proofs.Common.{rules, ◌≡◌, List, [], ◌∷◌, ap, refl, sym, subst}
use Rattle.desk_log.specs.declared.entry.Entry.{Entry}
use Rattle.desk_log.specs.declared.transcript.Run.{Run}
use Rattle.log_replay.specs.declared.stream.Stage.{Stage}
use Rattle.log_replay.specs.Stream.{HasEnded, IsStage, left_of}
use Rattle.log_replay.proofs.StreamLemmas.{replayed_next}
use Rattle.log_replay.proofs.stream.SiteReplay.begin_run.Goals as goal

pub begun_stage-requires-clause-there : goal.begun_stage-requires-clause-there
begun_stage-requires-clause-there c =
    let it = c.requires.there in
    let run : Run = record { sites = c.args.sites; first = c.args.first; entries = c.from_vec.result } in (
      run,
      refl,
      (
        it.0,
        it.1,
        it.2,
        c.args.self.now.at,
        subst (λ (s : Stage). IsStage c.args.layout.now c.args.site it.0 [] (record run { entries = it.1 } ∷ it.2) c.args.self.now.at s) (sym c.replace-stage.ensures.value) it.3.stage,
      ),
    )

pub returns-clause-replaying : goal.returns-clause-replaying
returns-clause-replaying c = λ runs es later it.
    let run : Run = record { sites = c.args.sites; first = c.args.first; entries = c.from_vec.result } in
    let next : Run = record run { entries = es } in
    let value = c.replace-stage.ensures.value in
    replayed_next c.args.layout.now c.args.site runs next later c.args.self.now _ it refl refl refl c.in_ok-self.ensures
    (c.in_ok-stage.ensures.stage run refl runs es later c.args.self.now.at (subst (λ (s : Stage). IsStage c.args.layout.now c.args.site runs [] (next ∷ later) c.args.self.now.at s) (sym value) it.stage))
    (λ over. c.in_ok-stage.ensures.ended (subst HasEnded (sym value) over))

pub returns-clause-kept : goal.returns-clause-kept
returns-clause-kept c = λ runs es later d doubt it going.
    let run : Run = record { sites = c.args.sites; first = c.args.first; entries = c.from_vec.result } in
    let value = c.replace-stage.ensures.value in
    c.in_ok-stage.ensures.kept run refl runs es later c.args.self.now.at d (subst (λ (s : Stage). left_of s ≡ d ∷ []) (sym value) doubt)
    (subst (λ (s : Stage). IsStage c.args.layout.now c.args.site runs [] (record run { entries = es } ∷ later) c.args.self.now.at s) (sym value) it.stage) going
