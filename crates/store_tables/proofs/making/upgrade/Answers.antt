use Rattle.std.proofs.Common.{subst, sym}
use Rattle.sqlite.specs.Held.{state}
use Rattle.store_schema.specs.declared.Version.{Version}
use Rattle.store_rows.specs.Steps.{Runs}
use Rattle.store_rows.proofs.RunLemmas.{runs_failed, runs_none, runs_then}
use Rattle.store_tables.specs.Transacts.{Upgrades}
use Rattle.store_tables.proofs.MakeLemmas.{first_upgraded, second_stays}
use Rattle.store_tables.proofs.making.upgrade.Goals as goal

pub returns-in_ok-create_notices-in-First : goal.returns-in_ok-create_notices-in-First
returns-in_ok-create_notices-in-First g c =
    let d0 = (state g.S.Store c.args.tx.now.conn.now).now in
    let d1 = (state g.S.Store c.create_notices.new.tx.conn.now).now in
    let d2 = (state g.S.Store c.put_mark.new.tx.conn.now).now in
    subst (λ (v : Version). Runs g.S.Store (λ _. Upgrades v) c.args.tx.now c.put_mark.result c.put_mark.new.tx) (sym c.in-First.is)
    (runs_then c.put_mark.result c.in_ok-create_notices-in-First.ensures (rw c.version_text.ensures at c.put_mark.ensures) (λ _. first_upgraded d0 d1 d2))

pub returns-in_err-create_notices-in-First : goal.returns-in_err-create_notices-in-First
returns-in_err-create_notices-in-First g c = runs_failed c.from_residual.result c.from_residual.ensures.1 c.in_err-create_notices-in-First.ensures

pub returns-in-Second : goal.returns-in-Second
returns-in-Second g c =
    let now = (state g.S.Store c.args.tx.now.conn.now).now in
    runs_none (subst (λ (v : Version). Upgrades v now now) (sym c.in-Second.is) (second_stays now))
