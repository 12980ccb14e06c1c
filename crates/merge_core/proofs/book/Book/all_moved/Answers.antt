use Rattle.std.proofs.Common.{◌<◌, List, length, ap, arith}
use Rattle.std.proofs.lemmas.List.{length-map}
use Rattle.merge_core.specs.declared.delta.Row.{Row}
use Rattle.merge_core.specs.Book.{BookState, book_shape, counter_of, shape_in}
use Rattle.merge_core.proofs.MovedLemmas.{room_for_record}
use Rattle.merge_core.proofs.book.Book.all_moved.Goals as goal

pub push_moved-requires-clause-room : goal.push_moved-requires-clause-room
push_moved-requires-clause-room c =
    let b : BookState = c.args.self.now in
    let now = c.loop-r.invariant in
    let below : c.loop-r.r < length (book_shape b).records = omega (
      arith,
      c.loop-r-test.true,
      c.len-r-end.ensures,
      c.self.inside.records.ok.0,
      ap (λ (it : BookState). length it.records) c.self.view_is,
      length-map b.records shape_in,
    ) in
    omega (
      arith,
      c.loop-r.rows.ok.0,
      now.capacity,
      ap (λ (rows : List Row). length rows) now.rows,
      room_for_record (book_shape b) (counter_of b) c.loop-r.r (length (book_shape b).records) below,
    )
