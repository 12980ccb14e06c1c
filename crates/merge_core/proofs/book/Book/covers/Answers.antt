use Rattle.std.proofs.Common.{◌<◌, length, arith}
use Rattle.merge_core.specs.Book.{BookState}
use Rattle.merge_core.proofs.CoverLemmas.{covers_where_read}
use Rattle.merge_core.proofs.book.Book.covers.Goals as goal

pub returns : goal.returns
returns c =
    let b : BookState = record { sites = c.self.inside.sites; records = c.self.inside.records.items } in
    let inside : c.args.row.now.r < length b.records = omega (arith, c.if-r-len.false, c.len.ensures, c.from-r.ensures, c.self.inside.records.ok.0) in
    let site : c.args.row.now.s < b.sites = omega (arith, c.if-row-self.false) in
    rw (← c.self.view_is)
    (covers_where_read b c.from-r.result c.index.result.now c.args.row.now c.is_row_within.result c.self.invariant.0 c.from-r.ensures inside site c.index.ensures c.is_row_within.ensures)
