use Rattle.std.proofs.Common.{List, length, ap, arith}
use Rattle.std.proofs.lemmas.List.{length-append}
use Rattle.merge_core.specs.declared.delta.Row.{Row}
use Rattle.merge_core.specs.Book.{BookState, book_shape, counter_of}
use Rattle.merge_core.specs.Moved.{moved_rows}
use Rattle.merge_core.proofs.MovedLemmas.{room_for_row}
use Rattle.merge_core.proofs.book.Book.push_moved.Goals as goal

pub push_if_moved-requires-clause-room : goal.push_if_moved-requires-clause-room
push_if_moved-requires-clause-room c = λ moved.
    let b : BookState = c.args.self.now in
    let now = c.loop-s.invariant in
    let before = moved_rows (book_shape b) (counter_of b) c.args.r c.loop-s.s in
    omega (
      arith,
      c.requires.room,
      c.args.rows.now.ok.0,
      c.loop-s.rows.ok.0,
      now.capacity,
      ap (λ (rows : List Row). length rows) now.rows,
      length-append c.args.rows.now.items before,
      ap (λ (it : BookState). it.sites) c.self.view_is,
      c.loop-s-test.true,
      room_for_row (book_shape b) (counter_of b) c.args.r c.loop-s.s b.sites (omega (arith, ap (λ (it : BookState). it.sites) c.self.view_is, c.loop-s-test.true)) moved,
    )
