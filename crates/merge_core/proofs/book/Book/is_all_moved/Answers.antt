use Rattle.std.proofs.Common.{◌<◌, length, ap, arith}
use Rattle.std.proofs.lemmas.Bool.{false≢true}
use Rattle.std.proofs.lemmas.List.{length-map}
use Rattle.merge_core.specs.Book.{BookState, book_shape, counter_of, shape_in}
use Rattle.merge_core.proofs.TellingLemmas.{other_record}
use Rattle.merge_core.proofs.book.Book.is_all_moved.Goals as goal

pub returns-in_default : goal.returns-in_default
returns-in_default c =
    let b : BookState = c.args.self.now in
    let below : c.loop-r.r < length (book_shape b).records = omega (
      arith,
      c.loop-r-test.true,
      c.len-r-end.ensures,
      c.self.inside.records.ok.0,
      ap (λ (it : BookState). length it.records) c.self.view_is,
      length-map b.records shape_in,
    ) in (
      λ wrong. absurd (false≢true wrong),
      λ same. absurd (other_record (book_shape b) (counter_of b) c.loop-r.r (length (book_shape b).records) c.loop-r.rest.now c.args.rows.now below c.loop-r.invariant c.in_default.ensures same),
    )
