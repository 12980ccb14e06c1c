use Rattle.std.proofs.Common.{length}
use Rattle.log_replay.specs.Replay.{IsOnPath}
use Rattle.log_replay.proofs.replay.replay_runs.Given as goal

abbrev pub invariant-runs : goal.invariant-runs
invariant-runs l = IsOnPath l.layout l.site l.runs l.cut l.rest l.core l.trail.kept.items l.trail.at l.trail.mark.left l.trail.mark.own

abbrev pub decreases-runs : goal.decreases-runs
decreases-runs l = length l.rest
