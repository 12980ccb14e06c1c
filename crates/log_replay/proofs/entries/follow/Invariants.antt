use Rattle.std.proofs.Common.{◌≡◌, ◌+◌, length}
use Rattle.admission_model.specs.Account.{Account}
use Rattle.admission_core.specs.Core.{Stands}
use Rattle.log_replay.specs.Replay.{IsWay}
use Rattle.log_replay.proofs.entries.follow.Given as goal

abbrev pub invariant-entries : goal.invariant-entries
invariant-entries l = record {
  number : l.n + length l.rest ≡ length l.entries;
  way : (a : Account) → Stands a l.initial.core → (b : Account) × IsWay a l.entries l.n b l.rest × Stands b l.core;
}

abbrev pub decreases-entries : goal.decreases-entries
decreases-entries l = length l.rest
