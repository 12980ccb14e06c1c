use Rattle.std.proofs.Common.{ℕ, List, false}
use Rattle.exchange_threads.specs.declared.turn.Turn.TheVariants.{GoesOn}
use Rattle.exchange_threads.specs.Inbox.{HasHeard, IsInAt, nothing_heard}
use Rattle.exchange_threads.proofs.inbox.run_inbox_at.Given as goal

abbrev pub invariant-turns : goal.invariant-turns
invariant-turns g l = record {
  texts : List (List ℕ);
  heard : HasHeard texts l.fn.pass l.pass nothing_heard l.report l.t GoesOn;
  at : IsInAt l.t l.report;
  accounts : g.I.Inlet.accounts l.inlet l.pass.receipts texts l.report.memory false;
  same : g.I.Inlet.same l.fn.inlet l.inlet;
}
