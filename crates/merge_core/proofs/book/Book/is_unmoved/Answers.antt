use Rattle.std.proofs.Common.{◌≡◌, ◌<◌, length, get_or, ap, sym, ◌∙◌, arith, eqb-true}
use Rattle.std.proofs.lemmas.List.{get_or_default}
use Rattle.merge_core.specs.Book.{BookState}
use Rattle.merge_core.proofs.MarkLemmas.{unmarked_rows}
use Rattle.merge_core.proofs.book.Book.is_unmoved.Goals as goal

pub returns : goal.returns
returns c = λ none.
    let b : BookState = record { sites = c.self.inside.sites; records = c.self.inside.records.items } in
    let marks = c.self.inside.marks.items in
    let mask = c.index.result.now in
    let below : c.args.r < length b.records = rw (← c.self.view_is) at c.requires in
    let read : mask ≡ get_or marks c.args.r 0 =
    c.index.ensures
    ∙ (ap (λ k. get_or marks k mask) c.from.ensures ∙ get_or_default marks c.args.r mask 0 (omega (arith, below, c.self.invariant.1.as_many))) in
    rw (← c.self.view_is) (unmarked_rows b marks c.args.r c.self.invariant.1 below (sym read ∙ eqb-true mask 0 none))
