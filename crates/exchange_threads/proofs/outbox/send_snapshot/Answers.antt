use Rattle.std.proofs.Common.{◌∷◌, ◌++◌, [], rules, subst, sym}
use Rattle.exchange_threads.specs.declared.telling.Telling.{Telling}
use Rattle.exchange_threads.specs.Outbox.{shown_receipt}
use Rattle.exchange_threads.proofs.outbox.send_snapshot.Goals as goal

pub returns-in_default-clause-sending : goal.returns-in_default-clause-sending
returns-in_default-clause-sending g c = search rules

pub returns-in_default-clause-accounts : goal.returns-in_default-clause-accounts
returns-in_default-clause-accounts g c rs right at =
    subst (λ (t : Telling). g.O.Outlet.accounts c.args.outlet.now (rs ++ shown_receipt c.args.snapshot ∷ []) t.report.sent t.last) (sym c.note_memory.ensures)
    (g.met.O.Outlet.grows c.args.outlet.now rs (shown_receipt c.args.snapshot ∷ []) _ _ right)
