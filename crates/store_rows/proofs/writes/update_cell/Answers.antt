use Rattle.std.proofs.Common.{[], ◌∷◌}
use Rattle.sqlite.specs.Held.{state}
use Rattle.store_rows.specs.Rows.{cell_row}
use Rattle.store_rows.specs.Steps.{Brings, Any, if_changed, with_cells}
use Rattle.store_rows.specs.Texts.{update_cell_text}
use Rattle.store_rows.proofs.NeverUpdateLemmas.{cell_update_stops, cell_update_uses}
use Rattle.store_rows.proofs.RunLemmas.{count_puts}
use Rattle.store_rows.proofs.StepLemmas.{cell_changes}
use Rattle.store_rows.proofs.writes.update_cell.Goals as goal

pub returns : goal.returns
returns g c =
    let old = state g.S.Store c.args.tx.now.conn.now in
    let new = state g.S.Store c.execute.new.self.conn.now in
    count_puts c.execute.result 0 Any (λ count. Brings Any (if_changed count (with_cells (c.args.cell ∷ [])))) update_cell_text (cell_row c.args.cell) c.execute.ensures.same_reference
    (rw c.cell_values.ensures at c.execute.ensures.runs) c.execute.ensures.survives (cell_changes old new c.args.cell) (cell_update_uses old new c.args.cell) (cell_update_stops old new c.args.cell)
