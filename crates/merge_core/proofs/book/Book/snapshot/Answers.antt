use Rattle.std.proofs.Common.{◌≡◌, ◌∙◌, ap}
use Rattle.merge_core.specs.Delta.{DeltaState}
use Rattle.merge_core.specs.Book.{book_shape, counter_of}
use Rattle.merge_core.specs.Moved.{all_moved}
use Rattle.merge_core.proofs.SnapshotLemmas.{IsDelta-snapshot, IsChecked-snapshot, shown_by-snapshot, RowsName-snapshot}
use Rattle.merge_core.proofs.book.Book.snapshot.Goals as goal

pub of_rows-requires : goal.of_rows-requires
of_rows-requires c = rw c.in_ok-rows.ensures.rows (IsDelta-snapshot c.args.self.now c.args.from c.in_ok-rows.ensures.book c.requires)

pub returns-clause-checked : goal.returns-clause-checked
returns-clause-checked c =
    let rows : c.of_rows.result.rows ≡ all_moved (book_shape c.args.self.now) (counter_of c.args.self.now) = ap (λ (d : DeltaState). d.rows) c.of_rows.ensures ∙ c.in_ok-rows.ensures.rows in
    rw rows (IsChecked-snapshot c.args.self.now c.in_ok-rows.ensures.book)

pub returns-clause-counters : goal.returns-clause-counters
returns-clause-counters c = λ r s cell.
    let rows : c.of_rows.result.rows ≡ all_moved (book_shape c.args.self.now) (counter_of c.args.self.now) = ap (λ (d : DeltaState). d.rows) c.of_rows.ensures ∙ c.in_ok-rows.ensures.rows in
    rw rows (shown_by-snapshot c.args.self.now r s cell c.in_ok-rows.ensures.book)

pub returns-clause-names : goal.returns-clause-names
returns-clause-names c = λ r s cell k.
    let rows : c.of_rows.result.rows ≡ all_moved (book_shape c.args.self.now) (counter_of c.args.self.now) = ap (λ (d : DeltaState). d.rows) c.of_rows.ensures ∙ c.in_ok-rows.ensures.rows in
    rw rows (RowsName-snapshot c.args.self.now r s cell k c.in_ok-rows.ensures.book)
