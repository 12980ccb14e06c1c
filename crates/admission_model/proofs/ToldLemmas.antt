-- The rows that are told of counters.
use Rattle.std.proofs.Common.{◌≡◌, ℕ, zero, suc, ◌<◌, ◌≤◌, ◌⊎◌, inl, inr, Bool, true, false, List, [], ◌∷◌, ◌++◌, length, get_or, refl, sym, ap, ◌∙◌, arith}
use Rattle.std.specs.List.{AllByRecursion}
use Rattle.std.proofs.lemmas.List.{length-append, get_or_append_left, get_or_push, get_or_past}
use Rattle.std.proofs.lemmas.Bool.{cases_eq, cases_lt}
use Rattle.merge_core.specs.declared.cell.Cell.{Cell}
use Rattle.merge_core.specs.declared.cell.Cell.TheVariants.{Out, Taken, Ann, Fin}
use Rattle.merge_core.specs.declared.delta.Row.{Row}
use Rattle.merge_core.specs.Layout.{Shape}
use Rattle.merge_core.specs.Rows.{grant, counter_in, counters_of}
use Rattle.merge_core.specs.Moved.{first_numbers, told_row, row_if, has_moved, moved_rows, moved_below}
use Rattle.admission_model.specs.Sound.{FitsRow}
use Rattle.admission_model.proofs.MessageLemmas.{IsTellable}

pub length-first_numbers : (n : ℕ) (f : ℕ → ℕ) → length (first_numbers n f) ≡ n
length-first_numbers zero f = refl
length-first_numbers (suc n) f = omega (arith, length-append (first_numbers n f) (f n ∷ []), length-first_numbers n f)

pub first_numbers-at : (n : ℕ) (f : ℕ → ℕ) (j : ℕ) → j < n → get_or (first_numbers n f) j 0 ≡ f j
first_numbers-at zero f j below = absurd (omega arith)
first_numbers-at (suc n) f j below = at (cases_eq j n) (first_numbers-at n f j)
  where
    at : (j ≡ n) ⊎ (j ≡ n → ⊥) → (j < n → get_or (first_numbers n f) j 0 ≡ f j) → get_or (first_numbers n f ++ f n ∷ []) j 0 ≡ f j
    at (inl e) earlier = get_or_push (first_numbers n f) (f n) 0 j (length-first_numbers n f ∙ sym e) ∙ ap f (sym e)
    at (inr ne) earlier =
        let lower : j < n = omega arith in
        get_or_append_left (first_numbers n f) (f n ∷ []) 0 j (omega (arith, length-first_numbers n f)) ∙ earlier lower

-- the told row shows no more than the counters, and the same at every site
pub told_row-at : (n : ℕ) (counter : ℕ → ℕ → Cell → ℕ) (r s j : ℕ) → j < n → counter_in (counters_of (told_row n counter r s)) (Out j) ≡ counter r s (Out j)
told_row-at n counter r s j below = first_numbers-at n (λ k. counter r s (Out k)) j below

pub told_row-below : (n : ℕ) (counter : ℕ → ℕ → Cell → ℕ) (r s : ℕ) (cell : Cell) → counter_in (counters_of (told_row n counter r s)) cell ≤ counter r s cell
told_row-below n counter r s (Out j) = at (cases_lt j n)
  where
    at : (j < n) ⊎ (n ≤ j) → counter_in (counters_of (told_row n counter r s)) (Out j) ≤ counter r s (Out j)
    at (inl below) = omega (arith, told_row-at n counter r s j below)
    at (inr past) = omega (arith, get_or_past (first_numbers n (λ k. counter r s (Out k))) j 0 (omega (arith, length-first_numbers n (λ k. counter r s (Out k)))))
told_row-below n counter r s Taken = omega arith
told_row-below n counter r s Ann = omega arith
told_row-below n counter r s Fin = omega arith

pub told_row-wide : (n : ℕ) (counter : ℕ → ℕ → Cell → ℕ) (r s : ℕ) → length (told_row n counter r s).out ≡ n
told_row-wide n counter r s = length-first_numbers n (λ j. counter r s (Out j))

pub told_row-fits : (n : ℕ) (counter : ℕ → ℕ → Cell → ℕ) (granted r s : ℕ) → s < n → FitsRow granted s (counter r s) → FitsRow granted s (counter_in (counters_of (told_row n counter r s)))
told_row-fits n counter granted r s there fits = record {
  grant_kept = omega (arith, fits.grant_kept, told_row-at n counter r s s there);
  returned_after_taken = omega (arith, fits.returned_after_taken, told_row-at n counter r s s there);
  few_taken = fits.few_taken;
  few_moved = λ j apart. omega (arith, fits.few_moved j apart, told_row-below n counter r s (Out j));
  finished_after_announced = fits.finished_after_announced;
  few_announced = fits.few_announced;
}

pub told_row-tellable : (shape : Shape) (counter : ℕ → ℕ → Cell → ℕ) (r s : ℕ) → r < length shape.records → s < shape.sites → FitsRow (grant shape r s) s (counter r s) → IsTellable shape (told_row shape.sites counter r s)
told_row-tellable shape counter r s record_there site_there fits = record {
  record_there = record_there;
  site_there = omega (arith, site_there, told_row-wide shape.sites counter r s);
  few_sites = omega (arith, told_row-wide shape.sites counter r s);
  fits = told_row-fits shape.sites counter (grant shape r s) r s site_there fits;
}

all_push : (P : Row → Type 0) (xs ys : List Row) → AllByRecursion P xs → AllByRecursion P ys → AllByRecursion P (xs ++ ys)
all_push P [] ys a b = b
all_push P (x ∷ xs) ys a b = (a.0, all_push P xs ys a.1 b)

all_if : (P : Row → Type 0) (b : Bool) (p : Row) → P p → AllByRecursion P (row_if b p)
all_if P true p h = (h, tt)
all_if P false p h = tt

all_of_record : (P : Row → Type 0) (shape : Shape) (counter : ℕ → ℕ → Cell → ℕ) (r n : ℕ) → ((s : ℕ) → s < n → P (told_row shape.sites counter r s)) → AllByRecursion P (moved_rows shape counter r n)
all_of_record P shape counter r zero h = tt
all_of_record P shape counter r (suc n) h =
    all_push P (moved_rows shape counter r n) (row_if (has_moved shape counter r n) (told_row shape.sites counter r n)) (all_of_record P shape counter r n (λ s below. h s (omega arith)))
    (all_if P (has_moved shape counter r n) (told_row shape.sites counter r n) (h n (omega arith)))

-- whatever holds of each row of a shape holds of all told rows
pub all_told : (P : Row → Type 0) (shape : Shape) (counter : ℕ → ℕ → Cell → ℕ) (n : ℕ) → ((r s : ℕ) → r < n → s < shape.sites → P (told_row shape.sites counter r s)) → AllByRecursion P (moved_below shape counter n)
all_told P shape counter zero h = tt
all_told P shape counter (suc n) h =
    all_push P (moved_below shape counter n) (moved_rows shape counter n shape.sites) (all_told P shape counter n (λ r s below there. h r s (omega arith) there))
    (all_of_record P shape counter n shape.sites (λ s there. h n s (omega arith) there))
