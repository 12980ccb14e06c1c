-- A cell is put at its place in a list, which becomes that of the definition.
use Rattle.std.proofs.Common.{◌≡◌, ◌⊎◌, inl, inr, ℕ, zero, suc, ◌+◌, ◌<◌, ◌≤◌, true, false, List, [], ◌∷◌, length, get_or, set, drop, IsTrue, refl, ap, ◌∙◌, arith}
use Rattle.std.specs.List.{AllByRecursion, insert}
use Rattle.std.proofs.Math.Seq.{drop-cons}
use Rattle.std.proofs.lemmas.Bool.{cases_lt}
use Rattle.std.proofs.lemmas.List.{get_or_default}
use Rattle.std.proofs.lemmas.Bool.Decides.{nat_tests}
use Rattle.admission_core.specs.DurableCell.{DurableCell}
use Rattle.admission_core.specs.Durable.{AreRising, is_before, is_same_place, put_cell, put_cells}
use Rattle.durable_keeper.specs.Placing.{IsPlaceOf}
use Rattle.durable_keeper.proofs.CellLists.{before_through}
use Rattle.durable_keeper.proofs.MergeLemmas.{behind_apart}

not_behind : (c d : DurableCell) → is_before d c ≡ true → is_before c d ≡ false
not_behind c d p = grind (arith, nat_tests)

same_not_before : (c d : DurableCell) → is_same_place c d ≡ true → is_before c d ≡ false
same_not_before c d p = grind (arith, nat_tests)

before_or_same : (c d : DurableCell) → is_before d c ≡ false → is_same_place c d ≡ false → is_before c d ≡ true
before_or_same c d p q = grind (arith, nat_tests)

later_place : (c d : DurableCell) (ds : List DurableCell) (n : ℕ) → IsPlaceOf c (d ∷ ds) (suc n) → IsPlaceOf c ds n
later_place c d ds n is = record {
  within = let it = is.within in omega arith;
  before = λ k none below. is.before (suc k) none (omega (arith, below));
  next = λ none below. is.next none (omega (arith, below));
}

-- a cell of that place is there, and is replaced
pub put_same : (c : DurableCell) (ds : List DurableCell) (n : ℕ) → IsPlaceOf c ds n → n < length ds → is_same_place c (get_or ds n c) ≡ true → put_cell c ds ≡ set ds n c
put_same c [] n is below same = absurd (omega (arith, below))
put_same c (d ∷ ds) zero is below same = rw (same_not_before c d same, same) refl
put_same c (d ∷ ds) (suc n) is below same =
    let first : is_before d c ≡ true = is.before 0 c (omega arith) in
    rw (not_behind c d first, behind_apart c d first) (ap (λ (es : List DurableCell). d ∷ es) (put_same c ds n (later_place c d ds n is) (omega (arith, below)) same))

-- none is there, and the cell comes between others
pub put_new : (c : DurableCell) (ds : List DurableCell) (n : ℕ) → IsPlaceOf c ds n → (n < length ds → is_same_place c (get_or ds n c) ≡ false) → put_cell c ds ≡ insert ds n c
put_new c [] zero is apart = refl
put_new c [] (suc n) is apart = let it = is.within in absurd (omega arith)
put_new c (d ∷ ds) zero is apart =
    rw (before_or_same c d (is.next c (omega arith)) (apart (omega arith))) refl
put_new c (d ∷ ds) (suc n) is apart =
    let first : is_before d c ≡ true = is.before 0 c (omega arith) in
    rw (not_behind c d first, behind_apart c d first)
    (ap (λ (es : List DurableCell). d ∷ es) (put_new c ds n (later_place c d ds n is) (λ below. apart (omega (arith, below)))))

all_at : (P : DurableCell → Type 0) (ds : List DurableCell) (k : ℕ) (none : DurableCell) → AllByRecursion P ds → k < length ds → P (get_or ds k none)
all_at P [] k none all below = absurd (omega (arith, below))
all_at P (d ∷ ds) zero none all below = all.0
all_at P (d ∷ ds) (suc k) none all below = all_at P ds k none all.1 (omega (arith, below))

-- cells that rise stand one before the other
rises_at : (ds : List DurableCell) (j k : ℕ) (none : DurableCell) → AreRising ds → j < k → k < length ds → is_before (get_or ds j none) (get_or ds k none) ≡ true
rises_at [] j k none up apart below = absurd (omega (arith, below))
rises_at (d ∷ ds) j zero none up apart below = absurd (omega (arith, apart))
rises_at (d ∷ ds) zero (suc k) none up apart below = all_at (λ e. IsTrue (is_before d e)) ds k none up.0 (omega (arith, below))
rises_at (d ∷ ds) (suc j) (suc k) none up apart below = rises_at ds j k none up.1 (omega (arith, apart)) (omega (arith, below))

-- all up to one that is before a cell are
pub before_at : (c : DurableCell) (ds : List DurableCell) (j k : ℕ) (other none : DurableCell) → AreRising ds → j ≤ k → k < length ds → is_before (get_or ds k other) c ≡ true → IsTrue (is_before (get_or ds j none) c)
before_at c ds j k other none up within below there = at (cases_lt j k)
  where
    read : is_before (get_or ds k none) c ≡ true
    read = ap (λ (d : DurableCell). is_before d c) (get_or_default ds k none other below) ∙ there

    at : (j < k) ⊎ (k ≤ j) → IsTrue (is_before (get_or ds j none) c)
    at (inl less) = before_through (get_or ds j none) (get_or ds k none) c (rises_at ds j k none up less below) read
    at (inr more) = let same : j ≡ k = omega (arith, within, more) in rw same read

-- one cell more from the end on
pub puts_one : (cs ds : List DurableCell) (i : ℕ) (none : DurableCell) → i < length cs → put_cell (get_or cs i none) (put_cells (drop (i + 1) cs) ds) ≡ put_cells (drop i cs) ds
puts_one cs ds i none below = let here = drop-cons cs i none below in grind (arith, here)
