use Rattle.std.proofs.Common.{◌<◌, ap, arith}
use Rattle.merge_core.specs.Book.{BookState, book_shape, counter_of}
use Rattle.merge_core.proofs.TellingLemmas.{other_row}
use Rattle.merge_core.proofs.book.Book.behind_record.Goals as goal

pub returns-in_default : goal.returns-in_default
returns-in_default c =
    let b : BookState = c.args.self.now in
    let site : c.loop-s.s < b.sites = omega (arith, ap (λ (it : BookState). it.sites) c.self.view_is, c.loop-s-test.true) in
    other_row (book_shape b) (counter_of b) c.args.r c.loop-s.s b.sites c.loop-s.rest.now c.args.rows.now site c.loop-s.invariant c.in_default.ensures
