use Rattle.std.proofs.Common.{◌≤◌, ◌-◌, length}
use Rattle.run_engine.specs.Rounds.{HaveRounds}
use Rattle.run_engine.proofs.pairs.run_rounds.Given as goal

abbrev pub invariant-rounds : goal.invariant-rounds
invariant-rounds g l = record {
  within : l.begun ≤ l.turns;
  rounds : HaveRounds (length l.site.layout.records) (length l.peer.layout.records) l.begun l.fn.end l.end l.fn.peer_end l.peer_end;
}

abbrev pub decreases-rounds : goal.decreases-rounds
decreases-rounds g l = l.turns - l.begun
