use Rattle.std.proofs.Common.{◌≡◌, ◌+◌, ℕ, suc, true, arith, subst}
use Rattle.merge_core.specs.Book.{book_shape, counter_of}
use Rattle.merge_core.specs.Moved.{moved_below, moved_rows}
use Rattle.transcript_reader.specs.Shown.{BeginsWithRows}
use Rattle.transcript_reader.proofs.ShownLemmas.{rows_join}
use Rattle.transcript_reader.proofs.shown.behind_rows.Goals as goal

pub loop-r-preserved : goal.loop-r-preserved
loop-r-preserved c =
    let book = c.args.book.now in
    let one : suc c.loop-r.r ≡ c.loop-r.r + 1 = omega arith in
    subst (λ (n : ℕ). BeginsWithRows true (moved_below (book_shape book) (counter_of book) n) c.args.bytes.now c.in_ok-next.next c.in_ok-next.more.now) one
    (rows_join true (moved_below (book_shape book) (counter_of book) c.loop-r.r) (moved_rows (book_shape book) (counter_of book) c.loop-r.r book.sites)
    c.args.bytes.now c.loop-r.first c.loop-r.rest.now c.in_ok-next.next c.in_ok-next.more.now c.loop-r.invariant c.in_ok-next.ensures)
