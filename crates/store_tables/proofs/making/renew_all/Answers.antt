use Rattle.std.proofs.Common.{Ok}
use Rattle.sqlite.specs.Held.{state}
use Rattle.store_rows.proofs.RunLemmas.{runs_stopped, runs_then}
use Rattle.store_tables.proofs.MakeLemmas.{upgrade_then}
use Rattle.store_tables.proofs.TransactLemmas.{checked, open_failed, open_refused, open_then}
use Rattle.store_tables.proofs.making.renew_all.Goals as goal

pub returns : goal.returns
returns g c =
    let d0 = (state g.S.Store c.check_open.new.tx.conn.now).now in
    let d1 = (state g.S.Store c.upgrade.new.tx.conn.now).now in
    let d2 = (state g.S.Store c.put_mark.new.tx.conn.now).now in
    open_then c.put_mark.result c.check_open.ensures.same_reference c.in_ok-check_open.ensures.open c.check_open.ensures.kept c.check_open.ensures.survives (runs_then c.put_mark.result c.in_ok-upgrade.ensures c.put_mark.ensures (λ _. upgrade_then d0 d1 d2 c.args.version c.args.layout.now))

pub returns-in_err-check_open : goal.returns-in_err-check_open
returns-in_err-check_open g c = open_refused c.in_err-check_open.field-0.0 c.from_residual.result c.from_residual.ensures.1 c.check_open.ensures.same_reference c.check_open.ensures.kept c.check_open.ensures.survives

pub returns-in_err-upgrade : goal.returns-in_err-upgrade
returns-in_err-upgrade g c = open_failed c.from_residual-in_err-upgrade.result c.from_residual-in_err-upgrade.ensures.1 (runs_stopped (checked (Ok (tt {0})) c.check_open.ensures.same_reference c.in_ok-check_open.ensures.open c.check_open.ensures.kept c.check_open.ensures.survives) c.in_err-upgrade.ensures)
