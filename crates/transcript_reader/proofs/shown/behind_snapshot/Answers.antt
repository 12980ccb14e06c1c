use Rattle.std.proofs.Common.{◌≡◌, ◌++◌, ◌∙◌, ℕ, codes, decimal, subst}
use Rattle.merge_core.specs.Book.{BookState, book_shape, counter_of}
use Rattle.merge_core.specs.Moved.{all_moved}
use Rattle.text_parts.specs.Lists.{joined}
use Rattle.delta_codec.specs.DeltaText.{row_text}
use Rattle.transcript_text.specs.Quoted.{escaped}
use Rattle.transcript_reader.specs.Shown.{book_snapshot}
use Rattle.transcript_reader.proofs.ShownLemmas.{snapshot_of_parts, then_some}
use Rattle.transcript_reader.proofs.shown.behind_snapshot.Goals as goal

pub returns : goal.returns
returns c =
    then_some c.behind-2.result _ _
    (λ rest e. snapshot_of_parts (book_snapshot c.args.core.now) c.args.bytes.now c.in_ok-rest.rest.now c.in_ok-rest-2.rest.now c.in_ok-rest-3.rest.now rest.now
    (subst (λ (n : ℕ). c.args.bytes.now ≡ codes "{\\\"from\\\":" ++ (escaped (decimal n) ++ c.in_ok-rest.rest.now)) (c.from.ensures ∙ c.site.ensures) c.in_ok-rest.ensures)
    c.in_ok-rest-2.ensures
    (subst (λ (b : BookState). c.in_ok-rest-2.rest.now ≡ escaped (joined row_text (all_moved (book_shape b) (counter_of b))) ++ c.in_ok-rest-3.rest.now) c.book.ensures c.in_ok-rest-3.ensures)
    e)
    c.behind-2.ensures
