-- Whether rows begin with those that a book tells, record by record and site by site.
use Rattle.std.proofs.Common.{◌≡◌, ◌≢◌, ℕ, zero, suc, ◌<◌, ◌≤◌, ◌⊎◌, inl, inr, ◌↔◌, IsTrue, Bool, List, [], ◌++◌, length, get_or, sym, ap, ◌∙◌, append-nil, arith}
use Rattle.std.proofs.lemmas.Bool.{cases_eq}
use Rattle.std.proofs.lemmas.List.{append_assoc, append_cancel_left}
use Rattle.merge_core.specs.declared.cell.Cell.{Cell}
use Rattle.merge_core.specs.declared.delta.Row.{Row}
use Rattle.merge_core.specs.declared.record.RecordState.{RecordState}
use Rattle.merge_core.specs.Layout.{Shape}
use Rattle.merge_core.specs.Book.{BookState, record_at, row_in, counter_of, IsBook}
use Rattle.merge_core.specs.Moved.{told_row, has_moved, row_if, moved_rows, moved_below}
use Rattle.merge_core.proofs.BookLemmas.{read_record}
use Rattle.merge_core.proofs.SnapshotLemmas.{told_row-book}

-- a row with the counters of a record, at its place
abbrev pub row_there : RecordState → ℕ → ℕ → Row
row_there it r s = let row = row_in it s in record { r = r; s = s; out = row.out; taken = row.taken; ann = row.ann; fin = row.fin }

-- a row that stands in its place is told where it has the counters that were read
pub told_where_read : (b : BookState) (k r s : ℕ) (it : RecordState) (p : Row) (told : Bool) → IsBook b → k ≡ r → r < length b.records → s < b.sites → it ≡ get_or b.records k it → p.r ≡ r → p.s ≡ s
    → IsTrue told ↔ (p ≡ row_there it p.r p.s) → IsTrue told ↔ (p ≡ told_row b.sites (counter_of b) r s)
told_where_read b k r s it p told book at_k inside site read at_r at_s tells =
    (λ is. tells.0 is ∙ same, λ is. tells.1 (is ∙ sym same))
  where
    there : it ≡ record_at b r
    there = read_record b k it (omega (arith, at_k)) read ∙ ap (record_at b) at_k

    same : row_there it p.r p.s ≡ told_row b.sites (counter_of b) r s
    same = (λ i. row_there (there i) (at_r i) (at_s i)) ∙ sym (told_row-book b r s book inside site)

-- ---- a longer list begins with a shorter one

pub moved_rows-first : (shape : Shape) (counter : ℕ → ℕ → Cell → ℕ) (r n m : ℕ) → n ≤ m → (more : List Row) × (moved_rows shape counter r m ≡ moved_rows shape counter r n ++ more)
moved_rows-first shape counter r n zero few =
    let none : zero ≡ n = omega arith in
    ([], ap (λ (k : ℕ). moved_rows shape counter r k) none ∙ sym (append-nil (moved_rows shape counter r n)))
moved_rows-first shape counter r n (suc m) few = at (cases_eq n (suc m)) (moved_rows-first shape counter r n m)
  where
    last : List Row
    last = row_if (has_moved shape counter r m) (told_row shape.sites counter r m)

    at : (n ≡ suc m) ⊎ (n ≡ suc m → ⊥) → (n ≤ m → (more : List Row) × (moved_rows shape counter r m ≡ moved_rows shape counter r n ++ more))
        → (more : List Row) × (moved_rows shape counter r (suc m) ≡ moved_rows shape counter r n ++ more)
    at (inl e) earlier =
        ([], ap (λ (k : ℕ). moved_rows shape counter r k) (sym e) ∙ sym (append-nil (moved_rows shape counter r n)))
    at (inr ne) earlier =
        let begun = earlier (omega arith) in
        (begun.0 ++ last, ap (λ (rows : List Row). rows ++ last) begun.1 ∙ append_assoc (moved_rows shape counter r n) begun.0 last)

pub moved_below-first : (shape : Shape) (counter : ℕ → ℕ → Cell → ℕ) (n m : ℕ) → n ≤ m → (more : List Row) × (moved_below shape counter m ≡ moved_below shape counter n ++ more)
moved_below-first shape counter n zero few =
    let none : zero ≡ n = omega arith in
    ([], ap (λ (k : ℕ). moved_below shape counter k) none ∙ sym (append-nil (moved_below shape counter n)))
moved_below-first shape counter n (suc m) few = at (cases_eq n (suc m)) (moved_below-first shape counter n m)
  where
    last : List Row
    last = moved_rows shape counter m shape.sites

    at : (n ≡ suc m) ⊎ (n ≡ suc m → ⊥) → (n ≤ m → (more : List Row) × (moved_below shape counter m ≡ moved_below shape counter n ++ more))
        → (more : List Row) × (moved_below shape counter (suc m) ≡ moved_below shape counter n ++ more)
    at (inl e) earlier =
        ([], ap (λ (k : ℕ). moved_below shape counter k) (sym e) ∙ sym (append-nil (moved_below shape counter n)))
    at (inr ne) earlier =
        let begun = earlier (omega arith) in
        (begun.0 ++ last, ap (λ (rows : List Row). rows ++ last) begun.1 ∙ append_assoc (moved_below shape counter n) begun.0 last)

-- ---- rows are read from the front

-- what comes next was read too
pub read_next : (front next rest more rows : List Row) → rows ≡ front ++ rest → rest ≡ next ++ more → rows ≡ (front ++ next) ++ more
read_next front next rest more rows read begins =
    read ∙ (ap (λ (xs : List Row). front ++ xs) begins ∙ sym (append_assoc front next more))

-- something else comes next
other_next : (front next rest rows whole tail : List Row) → rows ≡ front ++ rest → ((more : List Row) → rest ≢ next ++ more) → whole ≡ (front ++ next) ++ tail → (more : List Row) → rows ≢ whole ++ more
other_next front next rest rows whole tail read other begins more = λ same.
    other (tail ++ more)
    (append_cancel_left front rest (next ++ (tail ++ more))
    (sym read ∙ (same ∙ (ap (λ (xs : List Row). xs ++ more) begins ∙ (append_assoc (front ++ next) tail more ∙ append_assoc front next (tail ++ more))))))

pub other_row : (shape : Shape) (counter : ℕ → ℕ → Cell → ℕ) (r s n : ℕ) (rest rows : List Row) → s < n → rows ≡ moved_rows shape counter r s ++ rest
    → ((more : List Row) → rest ≢ row_if (has_moved shape counter r s) (told_row shape.sites counter r s) ++ more) → (more : List Row) → rows ≢ moved_rows shape counter r n ++ more
other_row shape counter r s n rest rows below read other =
    let begun = moved_rows-first shape counter r (suc s) n (omega arith) in
    other_next (moved_rows shape counter r s) (row_if (has_moved shape counter r s) (told_row shape.sites counter r s)) rest rows (moved_rows shape counter r n) begun.0 read other begun.1

pub other_record : (shape : Shape) (counter : ℕ → ℕ → Cell → ℕ) (r n : ℕ) (rest rows : List Row) → r < n → rows ≡ moved_below shape counter r ++ rest
    → ((more : List Row) → rest ≢ moved_rows shape counter r shape.sites ++ more) → rows ≢ moved_below shape counter n
other_record shape counter r n rest rows below read other = λ same.
    let begun = moved_below-first shape counter (suc r) n (omega arith) in
    other_next (moved_below shape counter r) (moved_rows shape counter r shape.sites) rest rows (moved_below shape counter n) begun.0 read other begun.1 [] (same ∙ sym (append-nil (moved_below shape counter n)))

-- nothing comes behind them
pub nothing_behind : (front rest rows : List Row) → rows ≡ front ++ rest → (rest ≡ []) ↔ (rows ≡ front)
nothing_behind front rest rows read = (
  λ none. read ∙ (ap (λ (xs : List Row). front ++ xs) none ∙ append-nil front),
  λ same. append_cancel_left front rest [] (sym read ∙ (same ∙ sym (append-nil front))),
)
