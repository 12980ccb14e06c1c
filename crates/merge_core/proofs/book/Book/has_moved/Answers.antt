use Rattle.merge_core.specs.Book.{BookState}
use Rattle.merge_core.proofs.SnapshotLemmas.{moved_by_rights, moved_by_counts}
use Rattle.merge_core.proofs.book.Book.has_moved.Goals as goal

pub returns-then-has_moved_counts : goal.returns-then-has_moved_counts
returns-then-has_moved_counts c =
    let b : BookState = record { sites = c.self.inside.sites; records = c.self.inside.records.items } in
    rw (← c.self.view_is)
    (moved_by_counts b c.from.result c.args.r c.args.s c.index-it.result.now c.has_moved_counts.result c.from.ensures (rw (← c.self.view_is) at c.requires.record) c.index-it.ensures
    c.has_moved_counts.ensures c.if-has_moved_counts.true)

pub returns-else-has_moved_counts : goal.returns-else-has_moved_counts
returns-else-has_moved_counts c =
    let b : BookState = record { sites = c.self.inside.sites; records = c.self.inside.records.items } in
    rw (← c.self.view_is)
    (moved_by_rights b c.from.result c.args.r c.args.s c.index-it.result.now c.has_moved_counts.result c.has_moved_rights.result c.from.ensures (rw (← c.self.view_is) at c.requires.record) c.index-it.ensures
    c.has_moved_counts.ensures c.if-has_moved_counts.false c.has_moved_rights.ensures)
