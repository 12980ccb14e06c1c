use Rattle.std.proofs.Common.{◌<◌, ◌+◌, Ok, Err, [], ◌∷◌, ◌++◌, length, take, get_or, arith}
use Rattle.std.proofs.lemmas.List.{take_more}
use Rattle.sqlite.specs.Held.{state}
use Rattle.store_rows.specs.declared.content.StoredCell.{StoredCell}
use Rattle.store_rows.specs.Steps.{Brings, Any, with_cells}
use Rattle.store_rows.proofs.BesideLemmas.{spares_same}
use Rattle.store_rows.proofs.RunLemmas.{puts_failed, puts_none, puts_then}
use Rattle.store_rows.proofs.StepLemmas.{cells_more}
use Rattle.store_rows.proofs.writes.put_cells.Goals as goal

pub loop-cell-init : goal.loop-cell-init
loop-cell-init g c = puts_none (λ p two fits h. (h, spares_same (state g.S.Store c.args.tx.now.conn.now).now))

pub loop-cell-preserved : goal.loop-cell-preserved
loop-cell-preserved g c =
    let all = c.args.cells.now in
    let i = c.loop-cell.cell-index in
    let d : StoredCell = record { r = 0; slot = 0; n = 0 } in
    let old = state g.S.Store c.args.tx.now.conn.now in
    let mid = state g.S.Store c.loop-cell.tx.conn.now in
    let new = state g.S.Store c.put_cell.new.tx.conn.now in
    let within : i < length all = omega arith in
    rw (take_more all i d within)
    (puts_then (Ok tt) i 1 (with_cells (take i all)) (λ p two. two) (λ p fits. fits) (λ brings. brings) c.loop-cell.invariant c.in_ok-put_cell.ensures (λ _. cells_more old.now mid.now new.now (take i all) (get_or all i d)))

pub returns-in_err-put_cell : goal.returns-in_err-put_cell
returns-in_err-put_cell g c =
    let all = c.args.cells.now in
    let i = c.loop-cell.cell-index in
    let d : StoredCell = record { r = 0; slot = 0; n = 0 } in
    let x = get_or all i d in
    let old = state g.S.Store c.args.tx.now.conn.now in
    let mid = state g.S.Store c.loop-cell.tx.conn.now in
    let new = state g.S.Store c.put_cell.new.tx.conn.now in
    let within : i < length all = omega arith in
    puts_failed {E = λ _. Brings Any (with_cells (take i all ++ x ∷ []))} c.from_residual.result (i + 1) (length all) (omega (arith, within)) (λ p fits. fits) c.from_residual.ensures.1
    (puts_then (Err c.in_err-put_cell.field-0.0) i 1 (with_cells (take i all)) (λ p two. two) (λ p fits. fits) (λ brings. brings) c.loop-cell.invariant c.in_err-put_cell.ensures (λ _. cells_more old.now mid.now new.now (take i all) x))
