-- Rising lists, by the neighbours in them.
use Rattle.std.proofs.Common.{◌≡◌, ℕ, zero, suc, ◌-◌, ◌<◌, ◌≤◌, Bool, true, List, [], ◌∷◌, length, get_or, IsTrue, sym, ap, ◌∙◌, arith}
use Rattle.std.specs.List.{AllByRecursion}
use Rattle.store_rows.specs.Sorted.{IsRising}
use Rattle.store_rows.proofs.SortedLemmas.{IsOrder}

module _ {X : Type 0} (before : X → X → Bool) (order : IsOrder before) where
  later : (x y : X) (ys : List X) → before x y ≡ true → AllByRecursion (λ z. IsTrue (before y z)) ys → AllByRecursion (λ z. IsTrue (before x z)) ys
  later x y [] first all = tt
  later x y (z ∷ zs) first all = (order.through x y z first all.0, later x y zs first all.1)

  -- where each stands before the next, the list rises
  pub rising_by_neighbours : (xs : List X) → ((k : ℕ) (d : X) → suc k < length xs → IsTrue (before (get_or xs k d) (get_or xs (suc k) d))) → IsRising before xs
  rising_by_neighbours [] h = tt
  rising_by_neighbours (x ∷ []) h = (tt, tt)
  rising_by_neighbours (x ∷ (y ∷ ys)) h =
      let rest = rising_by_neighbours (y ∷ ys) (λ k d below. h (suc k) d (omega arith)) in
      let first : before x y ≡ true = h 0 x (omega arith) in
      ((first, later x y ys first rest.0), rest)

  neighbours : (xs : List X) (k : ℕ) (d : X) → IsRising before xs → suc k < length xs → before (get_or xs k d) (get_or xs (suc k) d) ≡ true
  neighbours [] k d up below = absurd (omega arith)
  neighbours (x ∷ []) k d up below = absurd (omega arith)
  neighbours (x ∷ (y ∷ ys)) zero d up below = up.0.0
  neighbours (x ∷ (y ∷ ys)) (suc k) d up below = neighbours (y ∷ ys) k d up.1 (omega arith)

  -- in a rising list each stands before the next
  pub before_at : (xs : List X) (i : ℕ) (d : X) → 1 ≤ i → i < length xs → IsRising before xs → before (get_or xs (i - 1) d) (get_or xs i d) ≡ true
  before_at xs i d positive below up =
      let next : suc (i - 1) ≡ i = omega arith in
      ap (λ k. before (get_or xs (i - 1) d) (get_or xs k d)) (sym next) ∙ neighbours xs (i - 1) d up (omega arith)
