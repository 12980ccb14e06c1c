use Rattle.merge_core.specs.Book.{counter_of}
use Rattle.admission_core.proofs.RisenLemmas.{column_turn}
use Rattle.admission_core.proofs.site_core.SiteCore.push_column.Goals as goal

pub loop-row-preserved : goal.loop-row-preserved
loop-row-preserved c =
    let core = c.args.self.now in
    column_turn (counter_of core.book) core.site c.args.first c.args.cell c.args.rows.now c.loop-row.row-index
    c.row-item.result c.args.cells.now.items c.loop-row.cells.items c.push_if_raised.new.cells.items c.loop-row-test.true
    c.row-item.is c.loop-row.invariant (c.in_ok-push_if_raised.ensures {u = tt})
