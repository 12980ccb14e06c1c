use Rattle.std.proofs.Common.{◌≡◌, List, [], ◌∷◌, Option, Some, None, sym, subst}
use Rattle.admission_core.specs.Core.{Core}
use Rattle.desk_log.specs.declared.transcript.Run.{Run}
use Rattle.log_replay.specs.Legal.{start_account}
use Rattle.log_replay.specs.Replay.{IsFirstCore}
use Rattle.log_replay.specs.Stream.{IsInRun}
use Rattle.log_replay.proofs.StreamLemmas.{first_begun, first_unfit, in_left}
use Rattle.log_replay.proofs.stream.first_stage.Goals as goal

pub returns-in-Some-clause-stage : goal.returns-in-Some-clause-stage
returns-in-Some-clause-stage c = λ it one es later.
    let first = subst (λ (o : Option Core). IsFirstCore c.args.layout.now c.args.site (start_account c.args.layout.now c.args.site (it ∷ [])) (it ∷ []) o) c.in-Some.is
    (subst (λ (rs : List Run). IsFirstCore c.args.layout.now c.args.site (start_account c.args.layout.now c.args.site rs) rs c.in_ok-core.field-0) one c.in_ok-core.ensures) in
    in_left c.args.layout.now c.args.site (record it { entries = es } ∷ later) es later c.in-Some.core _ 0 (c.new.ensures.items)
    (first_begun c.args.layout.now c.args.site it es later c.in-Some.core first)

pub returns-in-None-clause-stage : goal.returns-in-None-clause-stage
returns-in-None-clause-stage c = λ it one es later.
    first_unfit c.args.layout.now c.args.site it es later
    (subst (λ (o : Option Core). IsFirstCore c.args.layout.now c.args.site (start_account c.args.layout.now c.args.site (it ∷ [])) (it ∷ []) o) c.in-None.is
    (subst (λ (rs : List Run). IsFirstCore c.args.layout.now c.args.site (start_account c.args.layout.now c.args.site rs) rs c.in_ok-core.field-0) one c.in_ok-core.ensures))
