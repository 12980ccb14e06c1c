use Rattle.std.proofs.Common.{◌≡◌, ◌∙◌, sym, ap, subst}
use Rattle.std.proofs.lemmas.Bool.{false≢true}
use Rattle.merge_core.specs.Layout.{LayoutState, IsLayout, Shape, shape_of, at_sites}
use Rattle.merge_core.specs.Rows.{start_counter}
use Rattle.merge_core.specs.Delta.{DeltaState}
use Rattle.merge_core.specs.Check.{IsChecked}
use Rattle.merge_core.specs.Changes.{JoinsRows}
use Rattle.merge_core.specs.Book.{book_shape, counter_of}
use Rattle.admission_model.specs.Durable.{at_slot, places, kept_cells}
use Rattle.transcript_text.specs.Texts.{book_told}
use Rattle.transcript_reader.proofs.PartLemmas.{told_checked, cells_again, not_refused}
use Rattle.transcript_reader.proofs.told.part_told.Goals as goal

pub returns-then-is_err : goal.returns-then-is_err
returns-then-is_err c = λ first may told same.
    let layout = c.args.layout.now in
    let under = at_sites c.args.sites layout in
    let found = rw c.in-Some.is at (c.in_ok-under.ensures {u = tt}) in
    let is : c.in-Some.under ≡ under = found.1 in
    let there : IsLayout under = subst IsLayout (c.under.view_is ∙ is) c.under.invariant in
    let shape : book_shape c.in_ok-book.book ≡ shape_of under = c.in_ok-book.ensures.shape ∙ ap shape_of is in
    let checked : IsChecked (book_shape c.in_ok-book.book) c.args.told.now.rows =
    subst (λ (sh : Shape). IsChecked sh c.args.told.now.rows) (sym shape)
    (subst (λ (d : DeltaState). IsChecked (shape_of under) d.rows) (sym told) (told_checked layout c.args.site c.args.sites first there may)) in
    let passed = not_refused (book_shape c.in_ok-book.book) c.args.told.now.rows c.check.result c.check.ensures checked in
    absurd (false≢true (sym passed ∙ (sym c.is_err.ensures.value ∙ c.if-is_err.true)))

pub returns : goal.returns
returns c = λ first may told same.
    let layout = c.args.layout.now in
    let under = at_sites c.args.sites layout in
    let found = rw c.in-Some.is at (c.in_ok-under.ensures {u = tt}) in
    let is : c.in-Some.under ≡ under = found.1 in
    let there : IsLayout under = subst IsLayout (c.under.view_is ∙ is) c.under.invariant in
    let shape : book_shape c.in_ok-book.book ≡ shape_of under = c.in_ok-book.ensures.shape ∙ ap shape_of is in
    let joins : JoinsRows c.in_ok-book.book c.join.new.self (book_told layout c.args.site c.args.sites first).rows =
    subst (λ (d : DeltaState). JoinsRows c.in_ok-book.book c.join.new.self d.rows) told c.join.ensures.counters in
    let cells = cells_again layout c.args.site c.args.sites first there may c.in_ok-book.book c.join.new.self shape
    (λ r s cell. c.in_ok-book.ensures.counters r s cell ∙ ap (λ (l : LayoutState). start_counter (shape_of l) r s cell) is) joins in
    let kept = c.in_ok-cells.ensures {u = tt}
    ∙ (ap (λ (l : LayoutState). kept_cells (at_slot l.sites c.args.site (start_counter (shape_of l))) (at_slot l.sites c.args.site (counter_of c.join.new.self)) (places l)) is
    ∙ cells) in
    c.new.ensures ∙ (λ k. record { cells = kept k; sessions = same k })
