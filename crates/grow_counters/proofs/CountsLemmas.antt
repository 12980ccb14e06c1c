-- Laws of the merge of counters and of how many rise.
use Rattle.std.proofs.Common.{◌≡◌, ℕ, zero, suc, ◌+◌, ◌<◌, ◌≤◌, max, List, [], ◌∷◌, length, get_or, set, take, cond, ltb, refl, sym, ap, ◌∙◌, ◌⊎◌, inl, inr, arith, below_more, get_or-set_same, get_or-set_other}
use Rattle.std.proofs.lemmas.List.{length-set, length-take-le, ext_get_or, get_or_past, get_or_default}
use Rattle.std.proofs.lemmas.Bool.{cases_lt, lt-ltb}
use Rattle.std.proofs.lemmas.Bool.Decides.{nat_tests}
use Rattle.grow_counters.specs.Counts.{maxima, rise_count, IsWithin, IsLeastAbove}

pub length-maxima : (xs ys : List ℕ) → length (maxima xs ys) ≡ length xs
length-maxima xs [] = refl
length-maxima [] (y ∷ ys) = refl
length-maxima (x ∷ xs) (y ∷ ys) = ap suc (length-maxima xs ys)

pub get_or-maxima : (xs ys : List ℕ) (k : ℕ) → length ys ≤ length xs → get_or (maxima xs ys) k 0 ≡ max (get_or xs k 0) (get_or ys k 0)
get_or-maxima xs [] k fits = omega arith
get_or-maxima [] (y ∷ ys) k fits = omega arith
get_or-maxima (x ∷ xs) (y ∷ ys) zero fits = refl
get_or-maxima (x ∷ xs) (y ∷ ys) (suc k) fits = get_or-maxima xs ys k (omega arith)

-- the maxima are the least state above both
pub IsLeastAbove-maxima : (xs ys : List ℕ) → length ys ≤ length xs → IsLeastAbove xs ys (maxima xs ys)
IsLeastAbove-maxima xs ys fits = record {
  above_first = λ k. omega (arith, get_or-maxima xs ys k fits);
  above_second = λ k. omega (arith, get_or-maxima xs ys k fits);
  least = λ other above below k. omega (arith, get_or-maxima xs ys k fits, above k, below k);
}

-- as many counters rise as there are at most
pub rise_count_le : (xs ys : List ℕ) → rise_count xs ys ≤ length xs
rise_count_le [] ys = omega arith
rise_count_le (x ∷ xs) [] = omega arith
rise_count_le (x ∷ xs) (y ∷ ys) = grind (arith, nat_tests, rise_count_le xs ys)

pub rise_count-same : (xs : List ℕ) → rise_count xs xs ≡ 0
rise_count-same [] = refl
rise_count-same (x ∷ xs) = grind (arith, nat_tests, rise_count-same xs)

-- a write where nothing has risen yet
pub rise_count-set : (xs ys : List ℕ) (i v : ℕ) → i < length xs → i < length ys → get_or ys i 0 ≡ get_or xs i 0 → rise_count xs (set ys i v) ≡ rise_count xs ys + cond (ltb (get_or xs i 0) v) 1 0
rise_count-set [] ys i v in_xs in_ys same = omega arith
rise_count-set (x ∷ xs) [] i v in_xs in_ys same = omega arith
rise_count-set (x ∷ xs) (y ∷ ys) zero v in_xs in_ys same = grind (arith, nat_tests)
rise_count-set (x ∷ xs) (y ∷ ys) (suc i) v in_xs in_ys same = grind (arith, rise_count-set xs ys i v (omega arith) (omega arith) same)

-- one step of a merge from the front: the counters below i are merged, the others wait
pub record IsMergedBelow (i : ℕ) (xs ys now : List ℕ) : Type 0 where
  pub same_length : length now ≡ length xs
  pub merged : (k : ℕ) → k < i → get_or now k 0 ≡ max (get_or xs k 0) (get_or ys k 0)
  pub waiting : (k : ℕ) → i ≤ k → get_or now k 0 ≡ get_or xs k 0

pub IsMergedBelow-start : (xs ys : List ℕ) → IsMergedBelow 0 xs ys xs
IsMergedBelow-start xs ys = record { same_length = refl; merged = λ k below. absurd (omega arith); waiting = λ k above. refl }

pub IsMergedBelow-step : (i : ℕ) (xs ys now : List ℕ) → i < length xs → IsMergedBelow i xs ys now → IsMergedBelow (i + 1) xs ys (set now i (max (get_or now i 0) (get_or ys i 0)))
IsMergedBelow-step i xs ys now inside h = record {
  same_length = length-set now i _ ∙ h.same_length;
  merged = below_more _ _
      (λ k below. get_or-set_other now i k _ 0 (omega arith) ∙ h.merged k below)
      (get_or-set_same now i _ 0 (omega arith) ∙ ap (λ n. max n (get_or ys i 0)) (h.waiting i (omega arith)));
  waiting = λ k above. get_or-set_other now i k _ 0 (omega arith) ∙ h.waiting k (omega arith);
}

pub IsMergedBelow-end : (xs ys now : List ℕ) → length ys ≤ length xs → IsMergedBelow (length ys) xs ys now → now ≡ maxima xs ys
IsMergedBelow-end xs ys now fits h =
    ext_get_or 0 now (maxima xs ys) (h.same_length ∙ sym (length-maxima xs ys))
    (λ k below. at_place k (cases_lt k (length ys)))
  where
    at_place : (k : ℕ) → (k < length ys) ⊎ (length ys ≤ k) → get_or now k 0 ≡ get_or (maxima xs ys) k 0
    at_place k (inl below) = h.merged k below ∙ sym (get_or-maxima xs ys k fits)
    at_place k (inr above) = omega (arith, h.waiting k above, get_or-maxima xs ys k fits, get_or_past ys k 0 above)

-- one counter raised by a write rises alone
pub rise_count-raised : (xs : List ℕ) (i had n : ℕ) → i < length xs → had ≡ get_or xs i had → had < n → rise_count xs (set xs i n) ≡ 1
rise_count-raised xs i had n inside read above =
    let at_zero : had ≡ get_or xs i 0 = read ∙ get_or_default xs i had 0 inside in
    let rises : get_or xs i 0 < n = omega arith in
    rw (rise_count-set xs xs i n inside inside refl, rise_count-same xs, lt-ltb _ _ rises) refl

-- a list joined so far, and one counter more
pub get_or-maxima-take : (xs ys : List ℕ) (j : ℕ) → j < length ys → length ys ≤ length xs → get_or (maxima xs (take j ys)) j 0 ≡ get_or xs j 0
get_or-maxima-take xs ys j inside fits =
    let size : length (take j ys) ≡ j = length-take-le j ys (omega arith) in
    let none : get_or (take j ys) j 0 ≡ 0 = get_or_past (take j ys) j 0 (omega arith) in
    omega (arith, none, get_or-maxima xs (take j ys) j (omega arith))

pub maxima-take_more : (xs ys : List ℕ) (j : ℕ) → j < length ys → length ys ≤ length xs → maxima xs (take (j + 1) ys) ≡ set (maxima xs (take j ys)) j (max (get_or xs j 0) (get_or ys j 0))
maxima-take_more [] [] j inside fits = absurd (omega arith)
maxima-take_more [] (y ∷ ys) j inside fits = absurd (omega arith)
maxima-take_more (x ∷ xs) [] j inside fits = absurd (omega arith)
maxima-take_more (x ∷ xs) (y ∷ ys) zero inside fits = refl
maxima-take_more (x ∷ xs) (y ∷ ys) (suc j) inside fits =
    let more : suc j + 1 ≡ suc (j + 1) = omega arith in
    rw more (ap (λ zs. max x y ∷ zs) (maxima-take_more xs ys j (omega arith) (omega arith)))

pub rise_count-take_more : (xs ys : List ℕ) (j : ℕ) → j < length ys → length ys ≤ length xs → rise_count xs (maxima xs (take (j + 1) ys)) ≡ rise_count xs (maxima xs (take j ys)) + cond (ltb (get_or xs j 0) (get_or ys j 0)) 1 0
rise_count-take_more xs ys j inside fits =
    let size : length (maxima xs (take j ys)) ≡ length xs = length-maxima xs (take j ys) in
    let one : rise_count xs (set (maxima xs (take j ys)) j (max (get_or xs j 0) (get_or ys j 0))) ≡ rise_count xs (maxima xs (take j ys)) + cond (ltb (get_or xs j 0) (max (get_or xs j 0) (get_or ys j 0))) 1 0 =
    rise_count-set xs (maxima xs (take j ys)) j (max (get_or xs j 0) (get_or ys j 0)) (omega arith) (omega arith) (get_or-maxima-take xs ys j inside fits) in
    rw (maxima-take_more xs ys j inside fits, one) (grind (arith, nat_tests))
