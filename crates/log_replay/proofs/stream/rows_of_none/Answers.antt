use Rattle.std.proofs.lemmas.Result.{IfOk-weaker}
use Rattle.log_replay.proofs.StreamLemmas.{none_rows}
use Rattle.log_replay.proofs.stream.rows_of_none.Goals as goal

pub returns : goal.returns
returns c =
    IfOk-weaker c.own_rows.result _ _
    (λ rows tells. none_rows c.args.layout.now c.args.site c.in_ok-core.core rows c.in_ok-core.ensures tells)
    c.own_rows.ensures
