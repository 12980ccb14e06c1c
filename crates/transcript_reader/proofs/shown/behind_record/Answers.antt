use Rattle.std.proofs.Common.{◌≡◌, ◌+◌, ℕ, suc, arith, subst}
use Rattle.merge_core.specs.Book.{book_shape, counter_of}
use Rattle.merge_core.specs.Moved.{moved_rows, row_if, has_moved, told_row}
use Rattle.transcript_reader.specs.Shown.{BeginsWithRows}
use Rattle.transcript_reader.proofs.ShownLemmas.{rows_join}
use Rattle.transcript_reader.proofs.shown.behind_record.Goals as goal

pub loop-s-preserved : goal.loop-s-preserved
loop-s-preserved c =
    let book = c.args.book.now in
    let one : suc c.loop-s.s ≡ c.loop-s.s + 1 = omega arith in
    subst (λ (n : ℕ). BeginsWithRows c.args.first (moved_rows (book_shape book) (counter_of book) c.args.r n) c.args.bytes.now c.in_ok-next.next c.in_ok-next.more.now) one
    (rows_join c.args.first (moved_rows (book_shape book) (counter_of book) c.args.r c.loop-s.s) (row_if (has_moved (book_shape book) (counter_of book) c.args.r c.loop-s.s) (told_row book.sites (counter_of book) c.args.r c.loop-s.s))
    c.args.bytes.now c.loop-s.still c.loop-s.rest.now c.in_ok-next.next c.in_ok-next.more.now c.loop-s.invariant c.in_ok-next.ensures)
