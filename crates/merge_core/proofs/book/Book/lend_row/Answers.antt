use Rattle.merge_core.specs.Book.{BookState}
use Rattle.merge_core.proofs.SnapshotLemmas.{told_row-read}
use Rattle.merge_core.proofs.book.Book.lend_row.Goals as goal

pub returns : goal.returns
returns c =
    let b : BookState = record { sites = c.self.inside.sites; records = c.self.inside.records.items } in
    rw (← c.self.view_is)
    (told_row-read b c.from.result c.args.r c.args.s c.index-it.result.now c.row.result.now c.taken.result c.announced.result c.finished.result c.self.invariant.0 c.from.ensures
    (rw (← c.self.view_is) at c.requires.record) (rw (← c.self.view_is) at c.requires.site) c.index-it.ensures
    c.row.ensures c.taken.ensures c.announced.ensures c.finished.ensures)
