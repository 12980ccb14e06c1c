use Rattle.std.proofs.Common.{Ok}
use Rattle.sqlite.specs.Held.{state}
use Rattle.store_rows.specs.Steps.{Any, Brings, HasFreePlace, with_edit, with_notices}
use Rattle.store_rows.proofs.RunLemmas.{runs_stopped, runs_then}
use Rattle.store_tables.proofs.TransactLemmas.{changes_then, checked, open_failed, open_refused, open_then}
use Rattle.store_tables.proofs.commits.change.Goals as goal

pub returns : goal.returns
returns g c =
    let cells = c.args.cells.now in
    let notices = c.args.notices.now in
    let d0 = (state g.S.Store c.check_open.new.tx.conn.now).now in
    let d1 = (state g.S.Store c.put_cells.new.tx.conn.now).now in
    let d2 = (state g.S.Store c.put_notices.new.tx.conn.now).now in
    let d3 = (state g.S.Store c.edit_session.new.tx.conn.now).now in
    let r = c.edit_session.result in
    open_then r c.check_open.ensures.same_reference c.in_ok-check_open.ensures.open c.check_open.ensures.kept c.check_open.ensures.survives
    (runs_then r c.in_ok-put_cells.ensures.runs
    (runs_then {G = λ _ _ _. Brings Any (with_notices notices) d1 d2 × Brings (λ p. HasFreePlace c.args.edit p.sessions) (with_edit c.args.edit) d2 d3} r c.in_ok-put_notices.ensures.runs c.edit_session.ensures.runs (λ _ next last. (next, last)))
    (λ _ one later. changes_then d0 d1 d2 d3 cells notices c.args.edit one later.0 later.1))

pub returns-in_err-check_open : goal.returns-in_err-check_open
returns-in_err-check_open g c = open_refused c.in_err-check_open.field-0.0 c.from_residual.result c.from_residual.ensures.1 c.check_open.ensures.same_reference c.check_open.ensures.kept c.check_open.ensures.survives

pub returns-in_err-put_cells : goal.returns-in_err-put_cells
returns-in_err-put_cells g c = open_failed c.from_residual-in_err-put_cells.result c.from_residual-in_err-put_cells.ensures.1 (runs_stopped (checked (Ok (tt {0})) c.check_open.ensures.same_reference c.in_ok-check_open.ensures.open c.check_open.ensures.kept c.check_open.ensures.survives) c.in_err-put_cells.ensures.runs)

pub returns-in_err-put_notices : goal.returns-in_err-put_notices
returns-in_err-put_notices g c = open_failed c.from_residual-in_err-put_notices.result c.from_residual-in_err-put_notices.ensures.1 (runs_stopped (checked (Ok (tt {0})) c.check_open.ensures.same_reference c.in_ok-check_open.ensures.open c.check_open.ensures.kept c.check_open.ensures.survives) (runs_stopped c.in_ok-put_cells.ensures.runs c.in_err-put_notices.ensures.runs))
