use Rattle.std.proofs.Common.{refl}
use Rattle.std.proofs.lemmas.Result.{IfOk-weaker}
use Rattle.log_judge.specs.Cut.{runs_at}
use Rattle.log_judge.proofs.StreamLemmas.{log_on}
use Rattle.log_judge.proofs.stream.SiteLog.add_entry.Goals as goal

pub returns : goal.returns
returns c =
    IfOk-weaker c.take_back.result _ _
    (λ x takes layout ts cut i more later done merged log.
    let old = c.args.self.now in
    let step = c.in_ok-back.ensures in
    log_on layout ts cut i c.args.keeping.now c.args.entry more later old (record old { replay = c.add_entry.new.self }) c.take_back.new.self c.args.wanted c.in_ok-back.back log done merged
    (step.replaying layout i (runs_at ts i) more later log.replaying) refl refl step.back step.free step.ended step.counts.0 step.counts.1 takes)
    c.take_back.ensures
