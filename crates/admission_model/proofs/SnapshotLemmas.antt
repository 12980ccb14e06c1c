-- A snapshot shows what the site knows.
use Rattle.std.proofs.Common.{◌≡◌, ◌≢◌, ℕ, zero, suc, ◌+◌, ◌<◌, ◌≤◌, ◌⊎◌, inl, inr, Bool, true, false, not, ◌&&◌, cond, eqb, List, [], ◌∷◌, ◌++◌, length, refl, sym, ap, subst, ◌∙◌, arith}
use Rattle.std.specs.List.{AllByRecursion}
use Rattle.std.proofs.lemmas.Bool.{cases_eq, cases_Bool, eq-eqb, ne_eqb, eqb-true, ltb-false, and_parts, and_from, and_left, and_right, not-false, cond-true, cond-false}
use Rattle.merge_core.specs.declared.cell.Cell.{Cell}
use Rattle.merge_core.specs.declared.cell.Cell.TheVariants.{Out, Taken, Ann, Fin}
use Rattle.merge_core.specs.declared.delta.Row.{Row}
use Rattle.merge_core.specs.Layout.{Shape, shape_of}
use Rattle.merge_core.specs.Rows.{start_counter, counter_in, counters_of}
use Rattle.merge_core.specs.Naming.{shown_by}
use Rattle.merge_core.specs.Sums.{number_of_cells}
use Rattle.admission_model.specs.View.{View}
use Rattle.merge_core.specs.Moved.{told_row, row_if, has_moved, moved_rows, moved_below}
use Rattle.admission_model.specs.Merging.{snapshot_of}
use Rattle.merge_core.specs.Book.{HasCell}
use Rattle.admission_model.proofs.RowLemmas.{number_of_cells-zero, records_number}
use Rattle.admission_model.proofs.ToldLemmas.{told_row-at, all_told}

-- how many rows stand for a record and a site
unfoldable pub matches : ℕ → ℕ → List Row → ℕ
matches r s [] = 0
matches r s (p ∷ ps) = cond (eqb p.r r && eqb p.s s) 1 0 + matches r s ps

-- each row of a record and a site has this counter
abbrev Agrees : ℕ → ℕ → Cell → ℕ → Row → Type 0
Agrees r s cell n p = (eqb p.r r && eqb p.s s) ≡ true → counter_in (counters_of p) cell ≡ n

shown_agreed : (shape : Shape) (rows : List Row) (r s : ℕ) (cell : Cell) (n : ℕ) → AllByRecursion (Agrees r s cell n) rows → (start_counter shape r s cell ≡ n) ⊎ (1 ≤ matches r s rows) → shown_by shape rows r s cell ≡ n
unfolding matches
shown_agreed shape [] r s cell n all (inl start) = start
shown_agreed shape [] r s cell n all (inr some) = absurd (omega arith)
shown_agreed shape (p ∷ ps) r s cell n all found = at (cases_Bool (eqb p.r r && eqb p.s s)) found (λ f. shown_agreed shape ps r s cell n all.1 f)
  where
    at : ((eqb p.r r && eqb p.s s) ≡ true) ⊎ ((eqb p.r r && eqb p.s s) ≡ false) → (start_counter shape r s cell ≡ n) ⊎ (1 ≤ cond (eqb p.r r && eqb p.s s) 1 0 + matches r s ps) → ((start_counter shape r s cell ≡ n) ⊎ (1 ≤ matches r s ps) → shown_by shape ps r s cell ≡ n) → shown_by shape (p ∷ ps) r s cell ≡ n
    at (inl e) f later = cond-true (eqb p.r r && eqb p.s s) (counter_in (counters_of p) cell) (shown_by shape ps r s cell) e ∙ all.0 e
    at (inr e) (inl start) later = cond-false (eqb p.r r && eqb p.s s) (counter_in (counters_of p) cell) (shown_by shape ps r s cell) e ∙ later (inl start)
    at (inr e) (inr some) later =
        cond-false (eqb p.r r && eqb p.s s) (counter_in (counters_of p) cell) (shown_by shape ps r s cell) e
        ∙ later (inr (omega (arith, cond-false {A = ℕ} (eqb p.r r && eqb p.s s) 1 0 e)))

matches-append : (r s : ℕ) (xs ys : List Row) → matches r s (xs ++ ys) ≡ matches r s xs + matches r s ys
unfolding matches
matches-append r s [] ys = omega arith
matches-append r s (x ∷ xs) ys = omega (arith, matches-append r s xs ys)

one_match : (shape : Shape) (counter : ℕ → ℕ → Cell → ℕ) (r s : ℕ) (b : Bool) → b ≡ true → 1 ≤ matches r s (row_if b (told_row shape.sites counter r s))
unfolding matches
one_match shape counter r s true e = omega (arith, cond-true {A = ℕ} (eqb r r && eqb s s) 1 0 (and_from (eqb r r) (eqb s s) (eq-eqb r r refl) (eq-eqb s s refl)))
one_match shape counter r s false e = cc

matches_moved : (shape : Shape) (counter : ℕ → ℕ → Cell → ℕ) (r s m : ℕ) → s < m → has_moved shape counter r s ≡ true → 1 ≤ matches r s (moved_rows shape counter r m)
matches_moved shape counter r s zero below moved = absurd (omega arith)
matches_moved shape counter r s (suc m) below moved = at (cases_eq s m) (λ lower. matches_moved shape counter r s m lower moved)
  where
    at : (s ≡ m) ⊎ (s ≡ m → ⊥) → (s < m → 1 ≤ matches r s (moved_rows shape counter r m)) → 1 ≤ matches r s (moved_rows shape counter r (suc m))
    at (inl e) earlier =
        let here = subst (λ (x : ℕ). 1 ≤ matches r s (row_if (has_moved shape counter r x) (told_row shape.sites counter r x))) e (one_match shape counter r s (has_moved shape counter r s) moved) in
        omega (arith, here, matches-append r s (moved_rows shape counter r m) (row_if (has_moved shape counter r m) (told_row shape.sites counter r m)))
    at (inr ne) earlier =
        omega (arith, earlier (omega arith), matches-append r s (moved_rows shape counter r m) (row_if (has_moved shape counter r m) (told_row shape.sites counter r m)))

matches_all : (shape : Shape) (counter : ℕ → ℕ → Cell → ℕ) (r s n : ℕ) → r < n → s < shape.sites → has_moved shape counter r s ≡ true → 1 ≤ matches r s (moved_below shape counter n)
matches_all shape counter r s zero below there moved = absurd (omega arith)
matches_all shape counter r s (suc n) below there moved = at (cases_eq r n) (λ lower. matches_all shape counter r s n lower there moved)
  where
    at : (r ≡ n) ⊎ (r ≡ n → ⊥) → (r < n → 1 ≤ matches r s (moved_below shape counter n)) → 1 ≤ matches r s (moved_below shape counter (suc n))
    at (inl e) earlier =
        let here = subst (λ (x : ℕ). 1 ≤ matches r s (moved_rows shape counter x shape.sites)) e (matches_moved shape counter r s shape.sites there moved) in
        omega (arith, here, matches-append r s (moved_below shape counter n) (moved_rows shape counter n shape.sites))
    at (inr ne) earlier =
        omega (arith, earlier (omega arith), matches-append r s (moved_below shape counter n) (moved_rows shape counter n shape.sites))

told_cell : (shape : Shape) (counter : ℕ → ℕ → Cell → ℕ) (r s : ℕ) (cell : Cell) → HasCell shape.sites cell → counter_in (counters_of (told_row shape.sites counter r s)) cell ≡ counter r s cell
told_cell shape counter r s (Out j) below = told_row-at shape.sites counter r s j below
told_cell shape counter r s Taken below = refl
told_cell shape counter r s Ann below = refl
told_cell shape counter r s Fin below = refl

at_start : (n m : ℕ) → not (eqb n m) ≡ false → n ≡ m
at_start n m e = eqb-true n m (not-false (eqb n m) e)

unmoved : (shape : Shape) (counter : ℕ → ℕ → Cell → ℕ) (r s : ℕ) (cell : Cell) → HasCell shape.sites cell → has_moved shape counter r s ≡ false → counter r s cell ≡ start_counter shape r s cell
unmoved shape counter r s cell below still = at cell below
  where
    none : number_of_cells shape.sites (λ c. not (eqb (counter r s c) (start_counter shape r s c))) ≡ 0
    none = omega (arith, ltb-false 0 (number_of_cells shape.sites (λ c. not (eqb (counter r s c) (start_counter shape r s c)))) still)

    at : (c : Cell) → HasCell shape.sites c → counter r s c ≡ start_counter shape r s c
    at (Out j) lower = at_start (counter r s (Out j)) (start_counter shape r s (Out j)) ((number_of_cells-zero shape.sites (λ c. not (eqb (counter r s c) (start_counter shape r s c))) none).0 j lower)
    at Taken lower = at_start (counter r s Taken) 0 (number_of_cells-zero shape.sites (λ c. not (eqb (counter r s c) (start_counter shape r s c))) none).1.0
    at Ann lower = at_start (counter r s Ann) 0 (number_of_cells-zero shape.sites (λ c. not (eqb (counter r s c) (start_counter shape r s c))) none).1.1.0
    at Fin lower = at_start (counter r s Fin) 0 (number_of_cells-zero shape.sites (λ c. not (eqb (counter r s c) (start_counter shape r s c))) none).1.1.1

-- told rows show the counters
pub moved_show : (shape : Shape) (counter : ℕ → ℕ → Cell → ℕ) (r s : ℕ) (cell : Cell) → r < length shape.records → s < shape.sites → HasCell shape.sites cell → shown_by shape (moved_below shape counter (length shape.records)) r s cell ≡ counter r s cell
moved_show shape counter r s cell below there in_row =
    shown_agreed shape (moved_below shape counter (length shape.records)) r s cell (counter r s cell)
    (all_told (Agrees r s cell (counter r s cell)) shape counter (length shape.records) agree)
    (at (cases_Bool (has_moved shape counter r s)))
  where
    agree : (r2 s2 : ℕ) → r2 < length shape.records → s2 < shape.sites → Agrees r s cell (counter r s cell) (told_row shape.sites counter r2 s2)
    agree r2 s2 low_r low_s e =
        let same = and_parts (eqb r2 r) (eqb s2 s) e in
        let same_r : r2 ≡ r = eqb-true r2 r same.0 in
        let same_s : s2 ≡ s = eqb-true s2 s same.1 in
        told_cell shape counter r2 s2 cell in_row ∙ (ap (λ x. counter x s2 cell) same_r ∙ ap (λ x. counter r x cell) same_s)

    at : (has_moved shape counter r s ≡ true) ⊎ (has_moved shape counter r s ≡ false) → (start_counter shape r s cell ≡ counter r s cell) ⊎ (1 ≤ matches r s (moved_below shape counter (length shape.records)))
    at (inl e) = inr (matches_all shape counter r s (length shape.records) below there e)
    at (inr e) = inl (sym (unmoved shape counter r s cell in_row e))

pub snapshot_shows : (v : View) (r s : ℕ) (cell : Cell) → r < length v.layout.records → s < v.layout.sites → HasCell v.layout.sites cell → shown_by (shape_of v.layout) (snapshot_of v).rows r s cell ≡ v.counter r s cell
snapshot_shows v r s cell below there in_row =
    moved_show (shape_of v.layout) v.counter r s cell (omega (arith, below, records_number v.layout)) there in_row

-- no two told rows are of one record and site
matches_none : (r s : ℕ) (b : Bool) (p : Row) → (eqb p.r r && eqb p.s s) ≡ false → matches r s (row_if b p) ≡ 0
unfolding matches
matches_none r s true p e = omega (arith, cond-false {A = ℕ} (eqb p.r r && eqb p.s s) 1 0 e)
matches_none r s false p e = refl

matches_one : (r s : ℕ) (b : Bool) (p : Row) → matches r s (row_if b p) ≤ 1
unfolding matches
matches_one r s true p = at (cases_Bool (eqb p.r r && eqb p.s s))
  where
    at : ((eqb p.r r && eqb p.s s) ≡ true) ⊎ ((eqb p.r r && eqb p.s s) ≡ false) → cond (eqb p.r r && eqb p.s s) 1 0 + 0 ≤ 1
    at (inl e) = omega (arith, cond-true {A = ℕ} (eqb p.r r && eqb p.s s) 1 0 e)
    at (inr e) = omega (arith, cond-false {A = ℕ} (eqb p.r r && eqb p.s s) 1 0 e)
matches_one r s false p = omega arith

other_record : (shape : Shape) (counter : ℕ → ℕ → Cell → ℕ) (q r s m : ℕ) → q ≢ r → matches r s (moved_rows shape counter q m) ≡ 0
unfolding matches
other_record shape counter q r s zero apart = refl
other_record shape counter q r s (suc m) apart =
    omega (
      arith,
      matches-append r s (moved_rows shape counter q m) (row_if (has_moved shape counter q m) (told_row shape.sites counter q m)),
      other_record shape counter q r s m apart,
      matches_none r s (has_moved shape counter q m) (told_row shape.sites counter q m) (and_left (eqb q r) (eqb m s) (ne_eqb q r apart)),
    )

later_site : (shape : Shape) (counter : ℕ → ℕ → Cell → ℕ) (q r s m : ℕ) → m ≤ s → matches r s (moved_rows shape counter q m) ≡ 0
unfolding matches
later_site shape counter q r s zero past = refl
later_site shape counter q r s (suc m) past =
    omega (
      arith,
      matches-append r s (moved_rows shape counter q m) (row_if (has_moved shape counter q m) (told_row shape.sites counter q m)),
      later_site shape counter q r s m (omega arith),
      matches_none r s (has_moved shape counter q m) (told_row shape.sites counter q m) (and_right (eqb q r) (eqb m s) (ne_eqb m s (λ e. absurd (omega arith)))),
    )

one_of_record : (shape : Shape) (counter : ℕ → ℕ → Cell → ℕ) (q r s m : ℕ) → matches r s (moved_rows shape counter q m) ≤ 1
unfolding matches
one_of_record shape counter q r s zero = omega arith
one_of_record shape counter q r s (suc m) = at (cases_eq m s) (one_of_record shape counter q r s m)
  where
    joined : matches r s (moved_rows shape counter q (suc m)) ≡ matches r s (moved_rows shape counter q m) + matches r s (row_if (has_moved shape counter q m) (told_row shape.sites counter q m))
    joined = matches-append r s (moved_rows shape counter q m) (row_if (has_moved shape counter q m) (told_row shape.sites counter q m))

    at : (m ≡ s) ⊎ (m ≡ s → ⊥) → matches r s (moved_rows shape counter q m) ≤ 1 → matches r s (moved_rows shape counter q (suc m)) ≤ 1
    at (inl e) earlier =
        omega (arith, joined, later_site shape counter q r s m (omega arith), matches_one r s (has_moved shape counter q m) (told_row shape.sites counter q m))
    at (inr ne) earlier =
        omega (arith, joined, earlier, matches_none r s (has_moved shape counter q m) (told_row shape.sites counter q m) (and_right (eqb q r) (eqb m s) (ne_eqb m s ne)))

later_record : (shape : Shape) (counter : ℕ → ℕ → Cell → ℕ) (r s n : ℕ) → n ≤ r → matches r s (moved_below shape counter n) ≡ 0
unfolding matches
later_record shape counter r s zero past = refl
later_record shape counter r s (suc n) past =
    omega (
      arith,
      matches-append r s (moved_below shape counter n) (moved_rows shape counter n shape.sites),
      later_record shape counter r s n (omega arith),
      other_record shape counter n r s shape.sites (λ e. absurd (omega arith)),
    )

pub told_apart : (shape : Shape) (counter : ℕ → ℕ → Cell → ℕ) (r s n : ℕ) → matches r s (moved_below shape counter n) ≤ 1
unfolding matches
told_apart shape counter r s zero = omega arith
told_apart shape counter r s (suc n) = at (cases_eq n r) (told_apart shape counter r s n)
  where
    joined : matches r s (moved_below shape counter (suc n)) ≡ matches r s (moved_below shape counter n) + matches r s (moved_rows shape counter n shape.sites)
    joined = matches-append r s (moved_below shape counter n) (moved_rows shape counter n shape.sites)

    at : (n ≡ r) ⊎ (n ≡ r → ⊥) → matches r s (moved_below shape counter n) ≤ 1 → matches r s (moved_below shape counter (suc n)) ≤ 1
    at (inl e) earlier = omega (arith, joined, later_record shape counter r s n (omega arith), one_of_record shape counter n r s shape.sites)
    at (inr ne) earlier = omega (arith, joined, earlier, other_record shape counter n r s shape.sites ne)
