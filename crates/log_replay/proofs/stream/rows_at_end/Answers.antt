use Rattle.std.proofs.Common.{[], subst}
use Rattle.std.proofs.lemmas.Result.{IfOk-weaker}
use Rattle.log_replay.specs.declared.stream.Stage.{Stage}
use Rattle.log_replay.specs.Stream.{IsStage}
use Rattle.log_replay.proofs.StreamLemmas.{rows_last}
use Rattle.log_replay.proofs.stream.rows_at_end.Goals as goal

pub returns-in-Open : goal.returns-in-Open
returns-in-Open c =
    IfOk-weaker c.own_rows.result _ _
    (λ rows tells runs at is none.
    rows_last c.args.layout.now c.args.site runs c.in-Open.core c.in-Open.field-1.items at rows
    (subst (λ (s : Stage). IsStage c.args.layout.now c.args.site runs [] [] at s) c.in-Open.is is) tells)
    c.own_rows.ensures
