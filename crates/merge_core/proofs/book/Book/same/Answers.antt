use Rattle.std.proofs.Common.{◌≡◌, ◌<◌, length, refl, sym, ap, subst, ◌∙◌, arith}
use Rattle.std.proofs.lemmas.Bool.{false≢true}
use Rattle.merge_core.specs.Book.{BookState, record_at, shape_in, book_shape}
use Rattle.merge_core.specs.Order.{NamesSame}
use Rattle.merge_core.proofs.BookLemmas.{read_record}
use Rattle.merge_core.proofs.SameLemmas.{record_count, record_shape_at, same_books, same_from_names}
use Rattle.merge_core.proofs.book.Book.same.Goals as goal

pub same_record-requires-clause-shape : goal.same_record-requires-clause-shape
same_record-requires-clause-shape c =
    let a : BookState = record { sites = c.self.inside.sites; records = c.self.inside.records.items } in
    let b : BookState = record { sites = c.other.inside.sites; records = c.other.inside.records.items } in
    let shape : book_shape b ≡ book_shape a = rw (← c.self.view_is, ← c.other.view_is) at c.requires in
    let in_a : c.loop-r.r < length a.records = omega (arith, c.self.inside.records.ok.0) in
    let in_b : c.loop-r.r < length b.records = omega (arith, record_count a b shape) in
    ap shape_in (read_record b c.loop-r.r _ in_b c.index-in-loop-r.ensures)
    ∙ record_shape_at a b c.loop-r.r shape
    ∙ sym (ap shape_in (read_record a c.loop-r.r _ in_a c.index.ensures))

pub returns-then-not-same_record-clause-names : goal.returns-then-not-same_record-clause-names
returns-then-not-same_record-clause-names c =
    let a : BookState = record { sites = c.self.inside.sites; records = c.self.inside.records.items } in
    let b : BookState = record { sites = c.other.inside.sites; records = c.other.inside.records.items } in
    let shape : book_shape b ≡ book_shape a = rw (← c.self.view_is, ← c.other.view_is) at c.requires in
    let in_a : c.loop-r.r < length a.records = omega (arith, c.self.inside.records.ok.0) in
    let in_b : c.loop-r.r < length b.records = omega (arith, record_count a b shape) in (
      λ e. absurd (false≢true e),
      λ names.
          let names_here : NamesSame a b = rw (← c.self.view_is, ← c.other.view_is) at names in
          let same : a ≡ b = same_from_names a b c.self.invariant.0 c.other.invariant.0 shape names_here in
          c.if-not-same_record.ensures.1
          (read_record a c.loop-r.r _ in_a c.index.ensures
          ∙ ap (λ (x : BookState). record_at x c.loop-r.r) same
          ∙ sym (read_record b c.loop-r.r _ in_b c.index-in-loop-r.ensures)),
    )

pub returns-clause-names : goal.returns-clause-names
returns-clause-names c =
    let a : BookState = record { sites = c.self.inside.sites; records = c.self.inside.records.items } in
    let b : BookState = record { sites = c.other.inside.sites; records = c.other.inside.records.items } in
    let shape : book_shape b ≡ book_shape a = rw (← c.self.view_is, ← c.other.view_is) at c.requires in
    let same : a ≡ b = same_books a b shape (λ r below. c.loop-r.invariant r (omega (arith, c.self.inside.records.ok.0))) in
    let alike : NamesSame a b = subst (λ (x : BookState). NamesSame a x) same (λ r s cell k. (λ names. names, λ names. names)) in
    (λ _. rw (← c.self.view_is, ← c.other.view_is) alike, λ _. refl)

pub returns-clause-equal : goal.returns-clause-equal
returns-clause-equal c =
    let a : BookState = record { sites = c.self.inside.sites; records = c.self.inside.records.items } in
    let b : BookState = record { sites = c.other.inside.sites; records = c.other.inside.records.items } in
    let shape : book_shape b ≡ book_shape a = rw (← c.self.view_is, ← c.other.view_is) at c.requires in
    let same : a ≡ b = same_books a b shape (λ r below. c.loop-r.invariant r (omega (arith, c.self.inside.records.ok.0))) in
    (λ _. sym c.self.view_is ∙ same ∙ c.other.view_is, λ _. refl)
