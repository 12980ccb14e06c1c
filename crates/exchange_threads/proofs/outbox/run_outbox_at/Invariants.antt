use Rattle.std.proofs.Common.{length}
use Rattle.exchange_threads.specs.declared.turn.Turn.TheVariants.{GoesOn}
use Rattle.exchange_threads.specs.Outbox.{HasTold, IsOutAt, nothing_told}
use Rattle.exchange_threads.proofs.outbox.run_outbox_at.Given as goal

abbrev pub invariant-turns : goal.invariant-turns
invariant-turns g l = record {
  told : HasTold g.G.Gate.answers (length l.site.layout.records) l.fn.pass l.pass l.fn.gate l.gate nothing_told l.told.report GoesOn;
  at : IsOutAt l.counter l.told.report;
  accounts : g.O.Outlet.accounts l.outlet l.pass.receipts l.told.report.sent l.told.last;
  same : g.O.Outlet.same l.fn.outlet l.outlet;
}
