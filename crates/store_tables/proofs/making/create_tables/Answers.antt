use Rattle.sqlite.specs.Held.{state}
use Rattle.store_schema.specs.Tables.{schema_1, schema_2, schema_3, schema_4}
use Rattle.store_rows.specs.Steps.{Makes}
use Rattle.store_rows.proofs.RunLemmas.{runs_failed, runs_stopped, runs_then}
use Rattle.store_tables.proofs.MakeLemmas.{all_made}
use Rattle.store_tables.proofs.making.create_tables.Goals as goal

pub returns : goal.returns
returns g c =
    let d0 = (state g.S.Store c.args.tx.now.conn.now).now in
    let d1 = (state g.S.Store c.create_meta.new.tx.conn.now).now in
    let d2 = (state g.S.Store c.create_cells.new.tx.conn.now).now in
    let d3 = (state g.S.Store c.create_sessions.new.tx.conn.now).now in
    let d4 = (state g.S.Store c.create_notices.new.tx.conn.now).now in
    let r = c.create_notices.result in
    runs_then r c.in_ok-create_meta.ensures
    (runs_then {G = λ _ _ _. Makes schema_1 schema_2 d1 d2 × Makes schema_2 schema_3 d2 d3 × Makes schema_3 schema_4 d3 d4} r c.in_ok-create_cells.ensures
    (runs_then {G = λ _ _ _. Makes schema_2 schema_3 d2 d3 × Makes schema_3 schema_4 d3 d4} r c.in_ok-create_sessions.ensures c.create_notices.ensures (λ _ three four. (three, four))) (λ _ two later. (two, later.0, later.1)))
    (λ _ one later. all_made d0 d1 d2 d3 d4 one later.0 later.1 later.2)

pub returns-in_err-create_meta : goal.returns-in_err-create_meta
returns-in_err-create_meta g c = runs_failed c.from_residual.result c.from_residual.ensures.1 c.in_err-create_meta.ensures

pub returns-in_err-create_cells : goal.returns-in_err-create_cells
returns-in_err-create_cells g c = runs_failed c.from_residual-in_err-create_cells.result c.from_residual-in_err-create_cells.ensures.1 (runs_stopped c.in_ok-create_meta.ensures c.in_err-create_cells.ensures)

pub returns-in_err-create_sessions : goal.returns-in_err-create_sessions
returns-in_err-create_sessions g c = runs_failed c.from_residual-in_err-create_sessions.result c.from_residual-in_err-create_sessions.ensures.1 (runs_stopped c.in_ok-create_meta.ensures (runs_stopped c.in_ok-create_cells.ensures c.in_err-create_sessions.ensures))
