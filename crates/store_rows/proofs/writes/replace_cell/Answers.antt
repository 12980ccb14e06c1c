use Rattle.std.proofs.Common.{[], ◌∷◌}
use Rattle.sqlite.specs.Held.{state}
use Rattle.store_rows.specs.Rows.{cell_row}
use Rattle.store_rows.specs.Steps.{Brings, Any, with_cells}
use Rattle.store_rows.specs.Texts.{put_cell_text}
use Rattle.store_rows.proofs.NeverLemmas.{cell_stops, cell_uses}
use Rattle.store_rows.proofs.RunLemmas.{text_puts}
use Rattle.store_rows.proofs.StepLemmas.{cell_goes}
use Rattle.store_rows.proofs.writes.replace_cell.Goals as goal

pub returns : goal.returns
returns g c =
    let old = state g.S.Store c.args.tx.now.conn.now in
    let new = state g.S.Store c.run.new.tx.conn.now in
    text_puts c.run.result 1 Any (Brings Any (with_cells (c.args.cell ∷ []))) put_cell_text (cell_row c.args.cell) (rw c.cell_values.ensures at c.run.ensures) (cell_goes old new c.args.cell)
    (cell_uses old new c.args.cell) (cell_stops old new c.args.cell)
