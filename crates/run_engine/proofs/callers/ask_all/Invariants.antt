use Rattle.std.proofs.Common.{◌≡◌, ◌++◌, length}
use Rattle.run_engine.specs.Callers.{ask_calls, calls_in}
use Rattle.run_engine.proofs.callers.ask_all.Given as goal

abbrev pub invariant-asks : goal.invariant-asks
invariant-asks g l = record {
  number : l.pass.number ≡ l.initial.pass.number;
  calls : calls_in l.pass.receipts ++ ask_calls l.rest ≡ calls_in l.initial.pass.receipts ++ ask_calls l.asks;
}

abbrev pub decreases-asks : goal.decreases-asks
decreases-asks g l = length l.rest
