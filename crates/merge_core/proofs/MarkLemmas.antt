-- Marks of rows, over each change of a book.
use Rattle.std.proofs.Common.{◌≡◌, ◌≢◌, ℕ, ◌<◌, ◌≤◌, ◌⊎◌, inl, inr, zero, suc, Bool, true, false, not, eqb, List, [], length, get_or, set, bit_or, bit_and, w16, ◌*◌, ◌^◌, ◌%◌, sym, ap, subst, ◌∙◌, refl, arith, if◌then◌else◌, eq-eqb}
use Rattle.std.specs.Int.{bit_at, bit_not}
use Rattle.std.specs.Prelude.{Result, Ok, Err, MatchResult}
use Rattle.std.proofs.lemmas.Bool.{cases_Bool, cases_eq, ne_eqb, ltb-true, lt-ltb}
use Rattle.std.proofs.lemmas.List.{length-set, get_or-set_same, get_or-set_other, get_or_default}
use Rattle.std.proofs.lemmas.Nat.Bits.{bit_at-zero, bit_at_set_same, bit_at_set_other, bit_at_clear_same, bit_at_clear_other}
use Rattle.merge_core.specs.declared.cell.Cell.{Cell}
use Rattle.merge_core.specs.declared.cell.Cell.TheVariants.{Out, Taken, Ann, Fin}
use Rattle.merge_core.specs.declared.record.RecordState.{RecordState}
use Rattle.merge_core.specs.Layout.{Shape}
use Rattle.merge_core.specs.Rows.{counter_in, start_counter}
use Rattle.merge_core.specs.Sums.{one_if, number_of_cells}
use Rattle.merge_core.specs.Moved.{has_moved, moved_rows}
use Rattle.merge_core.specs.Book.{BookState, record_at, row_in, counter_of, shape_in, book_shape}
use Rattle.merge_core.specs.Changes.{keeps_counter, KeepsOwn}
use Rattle.merge_core.specs.Marked.{IsMarked, MarksMoved, MarksRow, UnmarksRow}
use Rattle.merge_core.proofs.SumLemmas.{total_le, total_zero}
use Rattle.merge_core.proofs.BookLemmas.{RaisesIn, with_record, record_at-same, record_at-other, book_shape-same, read_record}

-- ---- where each counter that has left its start had left it before, the row had too

one_if-le : (a b : Bool) → (a ≡ true → b ≡ true) → one_if a ≤ one_if b
one_if-le true b sure = let is = sure refl in rw is (omega arith)
one_if-le false b sure = omega arith

cells-le : (n : ℕ) (f g : Cell → Bool) → ((c : Cell) → f c ≡ true → g c ≡ true) → number_of_cells n f ≤ number_of_cells n g
cells-le n f g sure =
    omega (
      arith,
      total_le n (λ j. one_if (f (Out j))) (λ j. one_if (g (Out j))) (λ j below. one_if-le (f (Out j)) (g (Out j)) (sure (Out j))),
      one_if-le (f Taken) (g Taken) (sure Taken),
      one_if-le (f Ann) (g Ann) (sure Ann),
      one_if-le (f Fin) (g Fin) (sure Fin),
    )

has_left : Shape → (ℕ → ℕ → Cell → ℕ) → ℕ → ℕ → Cell → Bool
has_left shape counter r s cell = not (eqb (counter r s cell) (start_counter shape r s cell))

moved_before : (shape : Shape) (f g : ℕ → ℕ → Cell → ℕ) (r s : ℕ)
    → ((c : Cell) → has_left shape f r s c ≡ true → has_left shape g r s c ≡ true)
    → has_moved shape f r s ≡ true → has_moved shape g r s ≡ true
unfolding has_left
moved_before shape f g r s sure moved =
    lt-ltb 0 (number_of_cells shape.sites (has_left shape g r s))
    (omega (
      arith,
      ltb-true 0 (number_of_cells shape.sites (has_left shape f r s)) moved,
      cells-le shape.sites (has_left shape f r s) (has_left shape g r s) sure,
    ))

-- a row at its start has not moved
pub nothing_moved : (shape : Shape) (f : ℕ → ℕ → Cell → ℕ) (r s : ℕ) → ((c : Cell) → f r s c ≡ start_counter shape r s c) → has_moved shape f r s ≡ false
unfolding has_left
nothing_moved shape f r s start = at (cases_Bool (has_moved shape f r s))
  where
    never : (c : Cell) → has_left shape f r s c ≡ true → false ≡ true
    never c left =
        let same = eq-eqb (f r s c) (start_counter shape r s c) (start c) in
        cc

    at : (has_moved shape f r s ≡ true) ⊎ (has_moved shape f r s ≡ false) → has_moved shape f r s ≡ false
    at (inr still) = still
    at (inl moved) =
        absurd (omega (
          arith,
          ltb-true 0 (number_of_cells shape.sites (has_left shape f r s)) moved,
          cells-le shape.sites (has_left shape f r s) (λ c. false) never,
          total_zero shape.sites (λ j. one_if false) (λ j below. refl),
        ))

-- the marks of a book at its start
pub marks_started : (b : BookState) (marks : List ℕ) → length marks ≡ length b.records
    → ((r s : ℕ) (c : Cell) → counter_of b r s c ≡ start_counter (book_shape b) r s c) → MarksMoved b marks
marks_started b marks as_many start = record {
  as_many = as_many;
  marked = λ r s inside site moved. let still = nothing_moved (book_shape b) (counter_of b) r s (start r s) in absurd (cc);
}

-- ---- one record is written, of which one row may differ

-- two states of a record differ in one row at most
pub record SameElsewhere (old new : RecordState) (i : ℕ) : Type 0 where
  pub shape : shape_in new ≡ shape_in old
  pub rows : (t : ℕ) → t ≢ i → (c : Cell) → counter_in (row_in new t) c ≡ counter_in (row_in old t) c

pub same_unwritten : (st : RecordState) (i : ℕ) → SameElsewhere st st i
same_unwritten st i = record { shape = refl; rows = λ t apart c. refl }

pub same_raised : (old new : RecordState) (i : ℕ) (cell : Cell) (by : ℕ) → RaisesIn old new i cell by → SameElsewhere old new i
same_raised old new i cell by raises = record {
  shape = raises.shape;
  rows = λ t apart c. raises.counters t c ∙ (rw (ne_eqb t i apart) (omega arith));
}

-- what holds of both outcomes holds of what came out
pub whichever : {X T E : Type 0} (P : X → Type 0) (result : Result T E) (x a b : X) → MatchResult result (λ _. x ≡ a) (λ _. x ≡ b) → P a → P b → P x
whichever P (Ok t) x a b is pa pb = subst P (sym is) pa
whichever P (Err e) x a b is pa pb = subst P (sym is) pb

-- the marks of a book one row of which was written and marked
pub marks_written : (b : BookState) (r i : ℕ) (it st : RecordState) (marks new : List ℕ) → r < length b.records → it ≡ get_or b.records r it
    → SameElsewhere it st i → MarksMoved b marks → MarksRow r i marks new → MarksMoved (with_record b r st) new
unfolding has_left
marks_written b r i it st marks new below read same old row = record {
  as_many = row.as_many ∙ (old.as_many ∙ sym (length-set b.records r st));
  marked = λ q t inside site moved. at q t (omega (arith, length-set b.records r st)) site moved (cases_eq q r) (cases_eq t i);
}
  where
    there : it ≡ record_at b r
    there = read_record b r it below read

    shape : book_shape (with_record b r st) ≡ book_shape b
    shape = book_shape-same b r st (same.shape ∙ ap shape_in there)

    counters : (q t : ℕ) → (q ≢ r) ⊎ (t ≢ i) → (c : Cell) → counter_of (with_record b r st) q t c ≡ counter_of b q t c
    counters q t (inl apart) c = ap (λ (x : RecordState). counter_in (row_in x t) c) (record_at-other b r q st apart)
    counters q t (inr apart) c = record_of (cases_eq q r)
      where
        record_of : (q ≡ r) ⊎ (q ≢ r) → counter_of (with_record b r st) q t c ≡ counter_of b q t c
        record_of (inl here) =
            rw here
            (ap (λ (x : RecordState). counter_in (row_in x t) c) (record_at-same b r st below)
            ∙ (same.rows t apart c ∙ ap (λ (x : RecordState). counter_in (row_in x t) c) there))
        record_of (inr other) = ap (λ (x : RecordState). counter_in (row_in x t) c) (record_at-other b r q st other)

    as_before : (q t : ℕ) → (q ≢ r) ⊎ (t ≢ i) → has_moved (book_shape (with_record b r st)) (counter_of (with_record b r st)) q t ≡ true
        → has_moved (book_shape b) (counter_of b) q t ≡ true
    as_before q t apart moved =
        moved_before (book_shape b) (counter_of (with_record b r st)) (counter_of b) q t
        (λ c left. subst (λ n. not (eqb n (start_counter (book_shape b) q t c)) ≡ true) (counters q t apart c) left)
        (subst (λ (x : Shape). has_moved x (counter_of (with_record b r st)) q t ≡ true) shape moved)

    at : (q t : ℕ) → q < length b.records → t < b.sites → has_moved (book_shape (with_record b r st)) (counter_of (with_record b r st)) q t ≡ true
        → (q ≡ r) ⊎ (q ≢ r) → (t ≡ i) ⊎ (t ≢ i) → IsMarked new q t
    at q t inside site moved (inl here) (inl same_site) = rw (here, same_site) row.here
    at q t inside site moved (inl here) (inr apart) = row.others q t (old.marked q t inside site (as_before q t (inr apart) moved))
    at q t inside site moved (inr apart) at_site = row.others q t (old.marked q t inside site (as_before q t (inl apart) moved))

-- ---- a restart

pub marks_kept : (site : ℕ) (old new : BookState) (marks : List ℕ) → new.sites ≡ old.sites → length new.records ≡ length old.records
    → KeepsOwn site old new → MarksMoved old marks → MarksMoved new marks
unfolding has_left
marks_kept site old new marks same_sites same_records keeps is = record {
  as_many = is.as_many ∙ sym same_records;
  marked = λ r s inside at_site moved. is.marked r s (omega (arith, same_records)) (omega (arith, same_sites)) (before r s moved);
}
  where
    left_before : (r s : ℕ) (c : Cell) → has_left (book_shape old) (counter_of new) r s c ≡ true → has_left (book_shape old) (counter_of old) r s c ≡ true
    left_before r s c = by_rule (keeps_counter site s c) (keeps.counters r s c)
      where
        start : ℕ
        start = start_counter (book_shape old) r s c

        by_rule : (b : Bool) → counter_of new r s c ≡ (if b then counter_of old r s c else start)
            → not (eqb (counter_of new r s c) start) ≡ true → not (eqb (counter_of old r s c) start) ≡ true
        by_rule true kept left = subst (λ n. not (eqb n start) ≡ true) kept left
        by_rule false reset left = let none : not (eqb start start) ≡ true = subst (λ n. not (eqb n start) ≡ true) reset left in let same = eq-eqb start start refl in cc

    before : (r s : ℕ) → has_moved (book_shape new) (counter_of new) r s ≡ true → has_moved (book_shape old) (counter_of old) r s ≡ true
    before r s moved =
        moved_before (book_shape old) (counter_of new) (counter_of old) r s (left_before r s)
        (subst (λ (x : Shape). has_moved x (counter_of new) r s ≡ true) keeps.shape moved)

-- ---- what is not marked has not moved

pub unmarked_still : (b : BookState) (marks : List ℕ) (r s : ℕ) → MarksMoved b marks → r < length b.records → s < b.sites
    → ¬ IsMarked marks r s → has_moved (book_shape b) (counter_of b) r s ≡ false
unmarked_still b marks r s is inside site unmarked = at (cases_Bool (has_moved (book_shape b) (counter_of b) r s))
  where
    at : (has_moved (book_shape b) (counter_of b) r s ≡ true) ⊎ (has_moved (book_shape b) (counter_of b) r s ≡ false)
        → has_moved (book_shape b) (counter_of b) r s ≡ false
    at (inl moved) = absurd (unmarked (is.marked r s inside site moved))
    at (inr still) = still

none_told : (shape : Shape) (counter : ℕ → ℕ → Cell → ℕ) (r n : ℕ) → ((s : ℕ) → s < n → has_moved shape counter r s ≡ false) → moved_rows shape counter r n ≡ []
none_told shape counter r zero still = refl
none_told shape counter r (suc n) still =
    rw (none_told shape counter r n (λ s below. still s (omega arith)), still n (omega arith)) refl

-- a record without a mark tells no row
pub unmarked_rows : (b : BookState) (marks : List ℕ) (r : ℕ) → MarksMoved b marks → r < length b.records → get_or marks r 0 ≡ 0
    → moved_rows (book_shape b) (counter_of b) r b.sites ≡ []
unmarked_rows b marks r is inside none =
    none_told (book_shape b) (counter_of b) r b.sites
    (λ s below. unmarked_still b marks r s is inside below (λ marked. let zero_bit : bit_at (get_or marks r 0) s ≡ 0 = rw none (bit_at-zero s) in omega (arith, marked, zero_bit)))

-- ---- a mark is set

pub marks_set : (marks : List ℕ) (r s k m : ℕ) → k ≡ r → k < length marks → s < 16 → m ≡ get_or marks k m
    → MarksRow r s marks (set marks k (bit_or m (1 * 2 ^ s % 65536)))
marks_set marks r s k m at_r below within read = record {
  as_many = length-set marks k (bit_or m (1 * 2 ^ s % 65536));
  here = rw (← at_r) (bit_here s (inl refl));
  others = λ q t is. at q t is (cases_eq q k);
}
  where
    there : m ≡ get_or marks k 0
    there = read ∙ get_or_default marks k m 0 below

    bit_here : (t : ℕ) → (t ≡ s) ⊎ ((t ≢ s) × (bit_at m t ≡ 1)) → IsMarked (set marks k (bit_or m (1 * 2 ^ s % 65536))) k t
    bit_here t (inl same) = rw (same, get_or-set_same marks k (bit_or m (1 * 2 ^ s % 65536)) 0 below) (bit_at_set_same w16 m s within)
    bit_here t (inr (apart, was)) = rw (get_or-set_same marks k (bit_or m (1 * 2 ^ s % 65536)) 0 below) (bit_at_set_other w16 m s within t apart ∙ was)

    at : (q t : ℕ) → IsMarked marks q t → (q ≡ k) ⊎ (q ≢ k) → IsMarked (set marks k (bit_or m (1 * 2 ^ s % 65536))) q t
    at q t is (inl same) = rw same (bit_of t (subst (λ x. IsMarked marks x t) same is) (cases_eq t s))
      where
        bit_of : (u : ℕ) → IsMarked marks k u → (u ≡ s) ⊎ (u ≢ s) → IsMarked (set marks k (bit_or m (1 * 2 ^ s % 65536))) k u
        bit_of u was (inl here) = bit_here u (inl here)
        bit_of u was (inr apart) = bit_here u (inr (apart, ap (λ x. bit_at x u) there ∙ was))
    at q t is (inr apart) = rw (get_or-set_other marks k q (bit_or m (1 * 2 ^ s % 65536)) 0 apart) is

-- ---- a mark is cleared

pub marks_unset : (marks : List ℕ) (r s k m : ℕ) → k ≡ r → k < length marks → s < 16 → m ≡ get_or marks k m
    → UnmarksRow r s marks (set marks k (bit_and m (bit_not w16 (1 * 2 ^ s % 65536))))
marks_unset marks r s k m at_r below within read = record {
  as_many = length-set marks k (bit_and m (bit_not w16 (1 * 2 ^ s % 65536)));
  here = rw (← at_r) gone;
  others = λ q t low apart is. at q t low (apart_of q t apart) is (cases_eq q k);
}
  where
    new : List ℕ
    new = set marks k (bit_and m (bit_not w16 (1 * 2 ^ s % 65536)))

    there : m ≡ get_or marks k 0
    there = read ∙ get_or_default marks k m 0 below

    mask_is : get_or new k 0 ≡ bit_and m (bit_not w16 (1 * 2 ^ s % 65536))
    mask_is = get_or-set_same marks k (bit_and m (bit_not w16 (1 * 2 ^ s % 65536))) 0 below

    gone : ¬ IsMarked new k s
    gone is = let none : bit_at (get_or new k 0) s ≡ 0 = ap (λ x. bit_at x s) mask_is ∙ bit_at_clear_same w16 m s within in omega (arith, is, none)

    apart_of : (q t : ℕ) → (q ≢ r) ⊎ (t ≢ s) → (q ≢ k) ⊎ (t ≢ s)
    apart_of q t (inl apart) = inl (λ e. apart (e ∙ at_r))
    apart_of q t (inr apart) = inr apart

    at : (q t : ℕ) → t < 16 → (q ≢ k) ⊎ (t ≢ s) → IsMarked marks q t → (q ≡ k) ⊎ (q ≢ k) → IsMarked new q t
    at q t low (inl apart) is (inl same) = absurd (apart same)
    at q t low (inr apart) is (inl same) =
        rw same
        (ap (λ x. bit_at x t) mask_is
        ∙ (bit_at_clear_other w16 m s within t low apart
        ∙ (ap (λ x. bit_at x t) there ∙ subst (λ x. IsMarked marks x t) same is)))
    at q t low either is (inr apart) = rw (get_or-set_other marks k q (bit_and m (bit_not w16 (1 * 2 ^ s % 65536))) 0 apart) is

-- the marks of a book, without that of a row at its start
pub marks_cleared : (b : BookState) (r s : ℕ) (marks new : List ℕ) → b.sites ≤ 16 → MarksMoved b marks → has_moved (book_shape b) (counter_of b) r s ≡ false
    → UnmarksRow r s marks new → MarksMoved b new
marks_cleared b r s marks new few old still row = record {
  as_many = row.as_many ∙ old.as_many;
  marked = λ q t inside site moved. at q t inside site moved (cases_eq q r) (cases_eq t s);
}
  where
    at : (q t : ℕ) → q < length b.records → t < b.sites → has_moved (book_shape b) (counter_of b) q t ≡ true → (q ≡ r) ⊎ (q ≢ r) → (t ≡ s) ⊎ (t ≢ s) → IsMarked new q t
    at q t inside site moved (inl here) (inl same_site) =
        let here_too : has_moved (book_shape b) (counter_of b) r s ≡ true =
        subst (λ x. has_moved (book_shape b) (counter_of b) r x ≡ true) same_site (subst (λ x. has_moved (book_shape b) (counter_of b) x t ≡ true) here moved) in
        absurd (cc)
    at q t inside site moved (inl here) (inr apart) = row.others q t (omega arith) (inr apart) (old.marked q t inside site moved)
    at q t inside site moved (inr apart) at_site = row.others q t (omega arith) (inl apart) (old.marked q t inside site moved)
