use Rattle.std.proofs.Common.{◌≡◌, ◌+◌, refl}
use Rattle.admission_core.proofs.CoreLemmas.{both_ok}
use Rattle.log_judge.specs.Cut.{runs_at}
use Rattle.log_judge.proofs.StreamLemmas.{log_shown}
use Rattle.log_judge.proofs.stream.SiteLog.add_snapshot.Goals as goal

pub returns : goal.returns
returns c =
    let old = c.args.self.now in
    let replay = c.add_snapshot.new.self in
    let step = c.add_snapshot.ensures in
    both_ok {Q = λ x. (replay.stage ≡ old.replay.stage) × ((replay.cut ≡ old.replay.cut) × (replay.at ≡ old.replay.at + 1))}
    (λ x replaying same core layout ts cut i keeping e more later clear shown log.
    log_shown layout ts cut i keeping e more later old (record old { replay = replay }) core log clear shown
    (replaying core layout i (runs_at ts i) e more later clear shown log.replaying) refl refl same.0 same.1.0 same.1.1)
    c.add_snapshot.result step.replaying (both_ok (λ x stage counts. (stage, counts)) c.add_snapshot.result step.stage step.counts)
