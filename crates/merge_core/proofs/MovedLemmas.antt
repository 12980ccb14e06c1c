-- The rows that counters tell: what holds of each of them, and of the list of them all.
use Rattle.std.proofs.Common.{◌≡◌, ℕ, zero, suc, ◌+◌, ◌<◌, ◌≤◌, ◌⊎◌, inl, inr, Bool, true, false, not, ◌||◌, eqb, ltb, List, [], ◌∷◌, ◌++◌, length, get_or, refl, sym, ap, ◌∙◌, subst, arith}
use Rattle.std.specs.List.{AllByRecursion}
use Rattle.std.proofs.lemmas.Bool.{cases_eq, false≢true, ltb-false, lt-ltb, eqb-true, not-false}
use Rattle.std.proofs.lemmas.List.{length-append, get_or_append_left, get_or_push}
use Rattle.merge_core.specs.declared.cell.Cell.{Cell}
use Rattle.merge_core.specs.declared.cell.Cell.TheVariants.{Out, Taken, Ann, Fin}
use Rattle.merge_core.specs.declared.delta.Row.{Row}
use Rattle.merge_core.specs.Layout.{Shape}
use Rattle.merge_core.specs.Delta.{ComesBefore, IsRising}
use Rattle.merge_core.specs.Rows.{start_counter}
use Rattle.merge_core.specs.Sums.{total, one_if, number_of_cells}
use Rattle.merge_core.specs.Moved.{first_numbers, told_row, has_moved, row_if, moved_rows, moved_below, all_moved}
use Rattle.merge_core.proofs.SumLemmas.{total_member}

pub length-first_numbers : (n : ℕ) (f : ℕ → ℕ) → length (first_numbers n f) ≡ n
length-first_numbers zero f = refl
length-first_numbers (suc n) f = omega (arith, length-append (first_numbers n f) (f n ∷ []), length-first_numbers n f)

pub first_numbers-at : (n : ℕ) (f : ℕ → ℕ) (j : ℕ) → j < n → get_or (first_numbers n f) j 0 ≡ f j
first_numbers-at zero f j below = absurd (omega arith)
first_numbers-at (suc n) f j below = at (cases_eq j n) (first_numbers-at n f j)
  where
    at : (j ≡ n) ⊎ (j ≡ n → ⊥) → (j < n → get_or (first_numbers n f) j 0 ≡ f j) → get_or (first_numbers n f ++ f n ∷ []) j 0 ≡ f j
    at (inl e) earlier = get_or_push (first_numbers n f) (f n) 0 j (length-first_numbers n f ∙ sym e) ∙ ap f (sym e)
    at (inr ne) earlier =
        let lower : j < n = omega arith in
        get_or_append_left (first_numbers n f) (f n ∷ []) 0 j (omega (arith, length-first_numbers n f)) ∙ earlier lower

-- ---- each row of the list

all_append : (P : Row → Type 0) (xs ys : List Row) → AllByRecursion P xs → AllByRecursion P ys → AllByRecursion P (xs ++ ys)
all_append P [] ys in_xs in_ys = in_ys
all_append P (x ∷ xs) ys in_xs in_ys = (in_xs.0, all_append P xs ys in_xs.1 in_ys)

from_append : (P : Row → Type 0) (xs ys : List Row) → AllByRecursion P (xs ++ ys) → AllByRecursion P xs × AllByRecursion P ys
from_append P [] ys all = (tt, all)
from_append P (x ∷ xs) ys all = let rest = from_append P xs ys all.1 in ((all.0, rest.0), rest.1)

all_if : (P : Row → Type 0) (b : Bool) (p : Row) → P p → AllByRecursion P (row_if b p)
all_if P true p holds = (holds, tt)
all_if P false p holds = tt

from_if : (P : Row → Type 0) (b : Bool) (p : Row) → AllByRecursion P (row_if b p) → b ≡ true → P p
from_if P true p all e = all.0
from_if P false p all e = absurd (false≢true e)

-- what holds of each row of a record holds of those that are told ..
each_of_record : (shape : Shape) (counter : ℕ → ℕ → Cell → ℕ) (P : Row → Type 0) (r n : ℕ) → ((s : ℕ) → s < n → P (told_row shape.sites counter r s)) → AllByRecursion P (moved_rows shape counter r n)
each_of_record shape counter P r zero each = tt
each_of_record shape counter P r (suc n) each =
    all_append P (moved_rows shape counter r n) (row_if (has_moved shape counter r n) (told_row shape.sites counter r n))
    (each_of_record shape counter P r n (λ s below. each s (omega arith)))
    (all_if P (has_moved shape counter r n) (told_row shape.sites counter r n) (each n (omega arith)))

each_below : (shape : Shape) (counter : ℕ → ℕ → Cell → ℕ) (P : Row → Type 0) (n : ℕ) → ((r s : ℕ) → r < n → s < shape.sites → P (told_row shape.sites counter r s)) → AllByRecursion P (moved_below shape counter n)
each_below shape counter P zero each = tt
each_below shape counter P (suc n) each =
    all_append P (moved_below shape counter n) (moved_rows shape counter n shape.sites)
    (each_below shape counter P n (λ r s below site. each r s (omega arith) site))
    (each_of_record shape counter P n shape.sites (λ s site. each n s (omega arith) site))

pub each_moved : (shape : Shape) (counter : ℕ → ℕ → Cell → ℕ) (P : Row → Type 0) → ((r s : ℕ) → r < length shape.records → s < shape.sites → P (told_row shape.sites counter r s)) → AllByRecursion P (all_moved shape counter)
each_moved shape counter P each = each_below shape counter P (length shape.records) each

-- .. and a row that has left its start is told
told_of_record : (shape : Shape) (counter : ℕ → ℕ → Cell → ℕ) (P : Row → Type 0) (r n s : ℕ) → AllByRecursion P (moved_rows shape counter r n) → s < n → has_moved shape counter r s ≡ true → P (told_row shape.sites counter r s)
told_of_record shape counter P r zero s all below moved = absurd (omega arith)
told_of_record shape counter P r (suc n) s all below moved = at (cases_eq n s) (told_of_record shape counter P r n s)
  where
    parts : AllByRecursion P (moved_rows shape counter r n) × AllByRecursion P (row_if (has_moved shape counter r n) (told_row shape.sites counter r n))
    parts = from_append P (moved_rows shape counter r n) (row_if (has_moved shape counter r n) (told_row shape.sites counter r n)) all

    at : (n ≡ s) ⊎ (n ≡ s → ⊥) → (AllByRecursion P (moved_rows shape counter r n) → s < n → has_moved shape counter r s ≡ true → P (told_row shape.sites counter r s)) → P (told_row shape.sites counter r s)
    at (inl e) earlier =
        from_if P (has_moved shape counter r s) (told_row shape.sites counter r s)
        (subst (λ (k : ℕ). AllByRecursion P (row_if (has_moved shape counter r k) (told_row shape.sites counter r k))) e parts.1) moved
    at (inr ne) earlier = earlier parts.0 (omega arith) moved

told_below : (shape : Shape) (counter : ℕ → ℕ → Cell → ℕ) (P : Row → Type 0) (n r s : ℕ) → AllByRecursion P (moved_below shape counter n) → r < n → s < shape.sites → has_moved shape counter r s ≡ true → P (told_row shape.sites counter r s)
told_below shape counter P zero r s all below site moved = absurd (omega arith)
told_below shape counter P (suc n) r s all below site moved = at (cases_eq n r) (told_below shape counter P n r s)
  where
    parts : AllByRecursion P (moved_below shape counter n) × AllByRecursion P (moved_rows shape counter n shape.sites)
    parts = from_append P (moved_below shape counter n) (moved_rows shape counter n shape.sites) all

    at : (n ≡ r) ⊎ (n ≡ r → ⊥) → (AllByRecursion P (moved_below shape counter n) → r < n → s < shape.sites → has_moved shape counter r s ≡ true → P (told_row shape.sites counter r s)) → P (told_row shape.sites counter r s)
    at (inl e) earlier =
        told_of_record shape counter P r shape.sites s
        (subst (λ (k : ℕ). AllByRecursion P (moved_rows shape counter k shape.sites)) e parts.1) site moved
    at (inr ne) earlier = earlier parts.0 (omega arith) site moved

pub is_told : (shape : Shape) (counter : ℕ → ℕ → Cell → ℕ) (P : Row → Type 0) (r s : ℕ) → AllByRecursion P (all_moved shape counter) → r < length shape.records → s < shape.sites → has_moved shape counter r s ≡ true → P (told_row shape.sites counter r s)
is_told shape counter P r s all below site moved = told_below shape counter P (length shape.records) r s all below site moved

-- ---- the rows rise

IsRising-append : (xs ys : List Row) → IsRising xs → IsRising ys → AllByRecursion (λ x. AllByRecursion (ComesBefore x) ys) xs → IsRising (xs ++ ys)
IsRising-append [] ys in_xs in_ys before = in_ys
IsRising-append (x ∷ xs) ys in_xs in_ys before =
    (all_append (ComesBefore x) xs ys in_xs.0 before.0, IsRising-append xs ys in_xs.1 in_ys before.1)

IsRising-if : (b : Bool) (p : Row) → IsRising (row_if b p)
IsRising-if true p = (tt, tt)
IsRising-if false p = tt

record_rising : (shape : Shape) (counter : ℕ → ℕ → Cell → ℕ) (r n : ℕ) → IsRising (moved_rows shape counter r n)
record_rising shape counter r zero = tt
record_rising shape counter r (suc n) =
    let next = row_if (has_moved shape counter r n) (told_row shape.sites counter r n) in
    IsRising-append (moved_rows shape counter r n) next (record_rising shape counter r n) (IsRising-if (has_moved shape counter r n) (told_row shape.sites counter r n))
    (each_of_record shape counter (λ x. AllByRecursion (ComesBefore x) next) r n
    (λ s below. all_if (ComesBefore (told_row shape.sites counter r s)) (has_moved shape counter r n) (told_row shape.sites counter r n) (inr (refl, below))))

rising_below : (shape : Shape) (counter : ℕ → ℕ → Cell → ℕ) (n : ℕ) → IsRising (moved_below shape counter n)
rising_below shape counter zero = tt
rising_below shape counter (suc n) =
    IsRising-append (moved_below shape counter n) (moved_rows shape counter n shape.sites) (rising_below shape counter n) (record_rising shape counter n shape.sites)
    (each_below shape counter (λ x. AllByRecursion (ComesBefore x) (moved_rows shape counter n shape.sites)) n
    (λ r s below site. each_of_record shape counter (ComesBefore (told_row shape.sites counter r s)) n shape.sites (λ t there. inl below)))

pub IsRising-moved : (shape : Shape) (counter : ℕ → ℕ → Cell → ℕ) → IsRising (all_moved shape counter)
IsRising-moved shape counter = rising_below shape counter (length shape.records)

-- ---- which rows have left their start

one_if-zero : (b : Bool) → one_if b ≡ 0 → b ≡ false
one_if-zero true e = cc
one_if-zero false e = refl

-- a row that has not left its start has the counters of the start
pub still_at_start : (shape : Shape) (counter : ℕ → ℕ → Cell → ℕ) (r s : ℕ) (cell : Cell) → has_moved shape counter r s ≡ false → ((j : ℕ) → cell ≡ Out j → j < shape.sites) → counter r s cell ≡ start_counter shape r s cell
still_at_start shape counter r s cell still place = same (at cell place)
  where
    moved : Cell → Bool
    moved c = not (eqb (counter r s c) (start_counter shape r s c))

    none : number_of_cells shape.sites moved ≡ 0
    none = let few = ltb-false 0 (number_of_cells shape.sites moved) still in omega arith

    at : (c : Cell) → ((j : ℕ) → c ≡ Out j → j < shape.sites) → moved c ≡ false
    at (Out j) there = one_if-zero (moved (Out j)) (omega (arith, none, total_member shape.sites j (λ k. one_if (moved (Out k))) (there j refl)))
    at Taken there = one_if-zero (moved Taken) (omega (arith, none))
    at Ann there = one_if-zero (moved Ann) (omega (arith, none))
    at Fin there = one_if-zero (moved Fin) (omega (arith, none))

    same : moved cell ≡ false → counter r s cell ≡ start_counter shape r s cell
    same e = eqb-true (counter r s cell) (start_counter shape r s cell) (not-false (eqb (counter r s cell) (start_counter shape r s cell)) e)

-- a count is above 0 where one of its parts is
pub some_of_four : (n : ℕ) (a b c : Bool) → ltb 0 (n + (one_if a + (one_if b + one_if c))) ≡ (ltb 0 n || (a || (b || c)))
some_of_four zero true b c = lt-ltb 0 (0 + (1 + (one_if b + one_if c))) (omega arith)
some_of_four zero false true c = lt-ltb 0 (0 + (0 + (1 + one_if c))) (omega arith)
some_of_four zero false false true = refl
some_of_four zero false false false = refl
some_of_four (suc n) a b c = lt-ltb 0 (suc n + (one_if a + (one_if b + one_if c))) (omega arith) ∙ or_true (ltb 0 (suc n)) (a || (b || c)) (lt-ltb 0 (suc n) (omega arith))
  where
    or_true : (t u : Bool) → t ≡ true → true ≡ (t || u)
    or_true true u e = refl
    or_true false u e = cc

-- a sum with a summand above 0 is above 0
pub some_in_total : (n k : ℕ) (test : ℕ → Bool) → k < n → test k ≡ true → true ≡ ltb 0 (total n (λ j. one_if (test j)))
some_in_total n k test below here =
    sym (lt-ltb 0 (total n (λ j. one_if (test j))) (omega (arith, total_member n k (λ j. one_if (test j)) below, ap one_if here)))

-- ---- how many rows have left their start

length-if : (b : Bool) (p : Row) → length (row_if b p) ≡ one_if b
length-if true p = refl
length-if false p = refl

-- one site more is one row more, where its row has left its start
pub moved_rows-count : (shape : Shape) (counter : ℕ → ℕ → Cell → ℕ) (r n : ℕ) → length (moved_rows shape counter r (suc n)) ≡ length (moved_rows shape counter r n) + one_if (has_moved shape counter r n)
moved_rows-count shape counter r n =
    length-append (moved_rows shape counter r n) (row_if (has_moved shape counter r n) (told_row shape.sites counter r n))
    ∙ ap (λ (k : ℕ). length (moved_rows shape counter r n) + k) (length-if (has_moved shape counter r n) (told_row shape.sites counter r n))

-- one record more is as many rows more as have left their start there
pub moved_below-count : (shape : Shape) (counter : ℕ → ℕ → Cell → ℕ) (n : ℕ) → length (moved_below shape counter (suc n)) ≡ length (moved_below shape counter n) + length (moved_rows shape counter n shape.sites)
moved_below-count shape counter n = length-append (moved_below shape counter n) (moved_rows shape counter n shape.sites)

one_if-few : (b : Bool) → one_if b ≤ 1
one_if-few true = omega arith
one_if-few false = omega arith

-- a record has at most one row for each site
pub moved_rows-few : (shape : Shape) (counter : ℕ → ℕ → Cell → ℕ) (r n : ℕ) → length (moved_rows shape counter r n) ≤ n
moved_rows-few shape counter r zero = omega arith
moved_rows-few shape counter r (suc n) =
    omega (arith, moved_rows-count shape counter r n, one_if-few (has_moved shape counter r n), moved_rows-few shape counter r n)

-- a row that has left its start is one more than those before it
pub room_for_row : (shape : Shape) (counter : ℕ → ℕ → Cell → ℕ) (r s n : ℕ) → s < n → has_moved shape counter r s ≡ true → length (moved_rows shape counter r s) < length (moved_rows shape counter r n)
room_for_row shape counter r s zero below moved = absurd (omega arith)
room_for_row shape counter r s (suc n) below moved = at (cases_eq n s) (room_for_row shape counter r s n)
  where
    at : (n ≡ s) ⊎ (n ≡ s → ⊥) → (s < n → has_moved shape counter r s ≡ true → length (moved_rows shape counter r s) < length (moved_rows shape counter r n))
        → length (moved_rows shape counter r s) < length (moved_rows shape counter r (suc n))
    at (inl e) earlier =
        let one : one_if (has_moved shape counter r n) ≡ 1 = ap (λ (k : ℕ). one_if (has_moved shape counter r k)) e ∙ ap one_if moved in
        let same : length (moved_rows shape counter r s) ≡ length (moved_rows shape counter r n) = ap (λ (k : ℕ). length (moved_rows shape counter r k)) (sym e) in
        omega (arith, moved_rows-count shape counter r n, one, same)
    at (inr ne) earlier = omega (arith, moved_rows-count shape counter r n, earlier (omega arith) moved)

-- the rows of a record come beside those of the records before it
pub room_for_record : (shape : Shape) (counter : ℕ → ℕ → Cell → ℕ) (r n : ℕ) → r < n → length (moved_below shape counter r) + length (moved_rows shape counter r shape.sites) ≤ length (moved_below shape counter n)
room_for_record shape counter r zero below = absurd (omega arith)
room_for_record shape counter r (suc n) below = at (cases_eq n r) (room_for_record shape counter r n)
  where
    at : (n ≡ r) ⊎ (n ≡ r → ⊥) → (r < n → length (moved_below shape counter r) + length (moved_rows shape counter r shape.sites) ≤ length (moved_below shape counter n))
        → length (moved_below shape counter r) + length (moved_rows shape counter r shape.sites) ≤ length (moved_below shape counter (suc n))
    at (inl e) earlier =
        let same : length (moved_below shape counter r) + length (moved_rows shape counter r shape.sites) ≡ length (moved_below shape counter n) + length (moved_rows shape counter n shape.sites) =
        ap (λ (k : ℕ). length (moved_below shape counter k) + length (moved_rows shape counter k shape.sites)) (sym e) in
        omega (arith, moved_below-count shape counter n, same)
    at (inr ne) earlier = omega (arith, moved_below-count shape counter n, earlier (omega arith))
