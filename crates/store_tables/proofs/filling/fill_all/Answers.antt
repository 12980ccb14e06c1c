use Rattle.sqlite.specs.Held.{state}
use Rattle.store_rows.specs.Steps.{Any, Brings, with_cells, with_notices}
use Rattle.store_rows.proofs.RunLemmas.{runs_stopped, runs_then}
use Rattle.store_tables.proofs.MakeLemmas.{filled_then}
use Rattle.store_tables.proofs.TransactLemmas.{open_failed, opened_then}
use Rattle.store_tables.proofs.filling.fill_all.Goals as goal

pub returns : goal.returns
returns g c =
    let cells = c.args.cells.now in
    let notices = c.args.notices.now in
    let d0 = (state g.S.Store c.args.tx.now.conn.now).now in
    let d1 = (state g.S.Store c.make_all.new.tx.conn.now).now in
    let d2 = (state g.S.Store c.put_cells.new.tx.conn.now).now in
    let d3 = (state g.S.Store c.put_notices.new.tx.conn.now).now in
    opened_then c.put_notices.result c.in_ok-make_all.ensures
    (runs_then {G = λ _ _ _. Brings Any (with_cells cells) d1 d2 × Brings Any (with_notices notices) d2 d3} c.put_notices.result c.in_ok-put_cells.ensures.runs c.put_notices.ensures.runs (λ _ one next. (one, next)))
    (λ one later. filled_then d0 d1 d2 d3 c.args.site.now c.args.layout.now cells notices one later.0 later.1)

pub returns-in_err-make_all : goal.returns-in_err-make_all
returns-in_err-make_all g c = open_failed c.from_residual.result c.from_residual.ensures.1 c.in_err-make_all.ensures.runs

pub returns-in_err-put_cells : goal.returns-in_err-put_cells
returns-in_err-put_cells g c = open_failed c.from_residual-in_err-put_cells.result c.from_residual-in_err-put_cells.ensures.1 (runs_stopped c.in_ok-make_all.ensures.runs c.in_err-put_cells.ensures.runs)
