use Rattle.std.proofs.Common.{◌≡◌, false, sym, ◌∙◌, subst}
use Rattle.merge_core.specs.Book.{BookState, book_shape, counter_of}
use Rattle.merge_core.specs.Moved.{has_moved}
use Rattle.merge_core.proofs.MarkLemmas.{marks_cleared}
use Rattle.merge_core.proofs.book.Book.clear_mark.Goals as goal

pub invariant_of-self : goal.invariant_of-self
invariant_of-self c =
    let b : BookState = record { sites = c.self.inside.sites; records = c.self.inside.records.items } in
    let still : has_moved (book_shape b) (counter_of b) c.args.r c.args.s ≡ false = subst (λ (it : BookState). has_moved (book_shape it) (counter_of it) c.args.r c.args.s ≡ false) (sym c.self.view_is) (sym c.has_moved.ensures ∙ c.if-not-has_moved.true) in (
      c.self.invariant.0,
      marks_cleared b c.args.r c.args.s c.self.inside.marks.items _ c.self.invariant.0.few_sites c.self.invariant.1 still c.unmark.ensures,
    )
