use Rattle.sqlite.specs.Held.{state}
use Rattle.store_rows.proofs.RunLemmas.{runs_as}
use Rattle.store_tables.proofs.MakeLemmas.{site_set}
use Rattle.store_tables.proofs.TransactLemmas.{open_refused, open_then}
use Rattle.store_tables.proofs.moving.put_site.Goals as goal

pub returns : goal.returns
returns g c = open_then c.put_mark.result c.check_open.ensures.same_reference c.in_ok-check_open.ensures.open c.check_open.ensures.kept c.check_open.ensures.survives (runs_as c.put_mark.result (λ _. site_set (state g.S.Store c.check_open.new.tx.conn.now).now (state g.S.Store c.put_mark.new.tx.conn.now).now c.args.site.now) c.put_mark.ensures)

pub returns-in_err-check_open : goal.returns-in_err-check_open
returns-in_err-check_open g c = open_refused c.in_err-check_open.field-0.0 c.from_residual.result c.from_residual.ensures.1 c.check_open.ensures.same_reference c.check_open.ensures.kept c.check_open.ensures.survives
