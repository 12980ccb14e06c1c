use Rattle.std.proofs.Common.{false, subst}
use Rattle.std.proofs.lemmas.Result.{IfOk-weaker}
use Rattle.log_replay.specs.declared.stream.Stage.{Stage}
use Rattle.log_replay.specs.Stream.{IsTried, stage_behind}
use Rattle.log_replay.proofs.StreamLemmas.{refused_open}
use Rattle.log_replay.proofs.stream.refused_at.Goals as goal

pub returns-in-Open-clause-stage : goal.returns-in-Open-clause-stage
returns-in-Open-clause-stage c =
    IfOk-weaker c.refused.result _ _
    (λ fault step before tried layout i runs more later is.
    refused_open layout i runs c.args.entry more later c.args.at c.in-Open.core c.in-Open.left (stage_behind c.refused.new.core c.refused.new.left fault)
    (λ b clear idle r. step b clear idle layout i runs more later r) before (subst (λ (s : Stage). IsTried before c.args.entry false s) c.in-Open.is tried) is)
    c.refused.ensures.stage
