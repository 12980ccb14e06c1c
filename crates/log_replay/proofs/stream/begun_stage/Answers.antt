use Rattle.std.proofs.Common.{◌≡◌, ℕ, List, [], ◌∷◌, sym, ap, subst, ◌∙◌}
use Rattle.std.specs.Prelude.{slice_index_or}
use Rattle.std.proofs.lemmas.Result.{IfOk-weaker}
use Rattle.desk_log.specs.declared.entry.Entry.{Entry}
use Rattle.desk_log.specs.declared.transcript.Run.{Run}
use Rattle.log_replay.specs.declared.stream.Stage.{Stage}
use Rattle.log_replay.specs.Stream.{IsInRun, IsSettled, IsStage, left_of}
use Rattle.log_replay.proofs.stream.begun_stage.Goals as goal

pub returns-in_ok-first-in-Fresh-clause-stage : goal.returns-in_ok-first-in-Fresh-clause-stage
returns-in_ok-first-in-Fresh-clause-stage c = λ it one runs es later at is.
    let layout = c.args.layout.now in
    let site = c.args.site in
    let next : Run = record it { entries = es } in
    let first = c.in_ok-first-in-Fresh.first in
    let fresh = subst (λ (s : Stage). IsStage layout site runs [] (next ∷ later) at s) c.in-Fresh.is is in
    subst (λ (rs : List Run). IsStage layout site rs es later at first) fresh.1.0
    (subst (λ (n : ℕ). IsStage layout site (next ∷ later) es later n first) (sym fresh.1.1) (c.in_ok-first-in-Fresh.ensures.stage it one es later))

pub returns-in-Open-clause-kept : goal.returns-in-Open-clause-kept
returns-in-Open-clause-kept c =
    let layout = c.args.layout.now in
    let site = c.args.site in
    let run = c.index-run-0.result in
    let core = c.in-Open.core in
    let left = c.in-Open.left in
    IfOk-weaker c.next_stage.result _ _
    (λ x kept it one runs es later at d left_is is going.
    let same : run ≡ it = c.index-run-0.is ∙ ap (λ (rs : List Run). slice_index_or rs 0 run) one in
    let begun : IsInRun layout site runs [] (record it { entries = es } ∷ later) core left.items at = subst (λ (s : Stage). IsStage layout site runs [] (record it { entries = es } ∷ later) at s) c.in-Open.is is in
    let here : IsInRun layout site runs [] (record run { entries = es } ∷ later) core left.items at = subst (λ (r : Run). IsInRun layout site runs [] (record r { entries = es } ∷ later) core left.items at) (sym same) begun in
    let doubt : left.items ≡ d ∷ [] = subst (λ (s : Stage). left_of s ≡ d ∷ []) c.in-Open.is left_is in
    subst (λ (r : Run). IsSettled layout site runs (record r { entries = es } ∷ later) at d x.1.items) same (kept site runs es later at d doubt here going))
    c.next_stage.ensures.kept
