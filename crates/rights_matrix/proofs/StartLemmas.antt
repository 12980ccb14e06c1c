-- The start of a matrix.
use Rattle.std.proofs.Common.{◌≡◌, ◌≢◌, ℕ, ◌*◌, ◌<◌, ◌≤◌, ◌⊎◌, inl, inr, List, [], length, get_or, set, replicate, ap, ◌∙◌, arith}
use Rattle.std.proofs.lemmas.List.{get_or-set_same, get_or-set_other, get_or-replicate, get_or_past, length-set, length-replicate}
use Rattle.std.proofs.lemmas.Bool.{cases_eq, cases_lt}
use Rattle.std.proofs.lemmas.Bool.Decides.{nat_tests}
use Rattle.rights_matrix.specs.Matrix.{row_of, entry, start_entry, start_matrix, given, HasRights}
use Rattle.rights_matrix.proofs.KeptLemmas.{start_entry_other}
use Rattle.rights_matrix.proofs.SumLemmas.{sum_by_below}

-- zeros are zeros everywhere
pub zero_row : (n j : ℕ) → get_or (replicate {A = ℕ} n 0) j 0 ≡ 0
zero_row n j = at (cases_lt j n)
  where
    at : (j < n) ⊎ (n ≤ j) → get_or (replicate {A = ℕ} n 0) j 0 ≡ 0
    at (inl below) = get_or-replicate n j 0 0 below
    at (inr past) = get_or_past (replicate {A = ℕ} n 0) j 0 (omega (arith, length-replicate {A = ℕ} n 0))

zero_rows : (n i j : ℕ) → get_or (get_or (replicate n (replicate {A = ℕ} n 0)) i []) j 0 ≡ 0
zero_rows n i j = at (cases_lt i n)
  where
    at : (i < n) ⊎ (n ≤ i) → get_or (get_or (replicate n (replicate {A = ℕ} n 0)) i []) j 0 ≡ 0
    at (inl below) = ap (λ (r : List ℕ). get_or r j 0) (get_or-replicate n i (replicate {A = ℕ} n 0) [] below) ∙ zero_row n j
    at (inr past) = ap (λ (r : List ℕ). get_or r j 0) (get_or_past (replicate n (replicate {A = ℕ} n 0)) i [] (omega (arith, length-replicate n (replicate {A = ℕ} n 0))))

-- the start, entry by entry
pub entry-start : (n home seats i j : ℕ) → home < n → entry (start_matrix n home seats) i j ≡ start_entry (start_matrix n home seats) i j
entry-start n home seats i j inside = at (cases_eq i home) (cases_eq j home)
  where
    zeros : List ℕ
    zeros = replicate {A = ℕ} n 0

    in_rows : home < length (replicate n (replicate {A = ℕ} n 0))
    in_rows = omega (arith, length-replicate n (replicate {A = ℕ} n 0))

    in_row : home < length (replicate {A = ℕ} n 0)
    in_row = omega (arith, length-replicate {A = ℕ} n 0)

    at : (i ≡ home) ⊎ (i ≢ home) → (j ≡ home) ⊎ (j ≢ home) → entry (start_matrix n home seats) i j ≡ start_entry (start_matrix n home seats) i j
    at (inl i_is) (inl j_is) =
        let e : entry (start_matrix n home seats) home home ≡ seats = ap (λ (r : List ℕ). get_or r home 0) (get_or-set_same (replicate n (replicate {A = ℕ} n 0)) home _ [] in_rows) ∙ get_or-set_same (replicate {A = ℕ} n 0) home seats 0 in_row in
        rw (i_is, j_is) (e ∙ grind (arith, nat_tests))
    at (inl i_is) (inr other) =
        let e : entry (start_matrix n home seats) home j ≡ 0 = ap (λ (r : List ℕ). get_or r j 0) (get_or-set_same (replicate n (replicate {A = ℕ} n 0)) home _ [] in_rows) ∙ (get_or-set_other (replicate {A = ℕ} n 0) home j seats 0 other ∙ zero_row n j) in
        rw i_is (e ∙ grind (arith, nat_tests))
    at (inr other) w =
        let e : entry (start_matrix n home seats) i j ≡ 0 = ap (λ (r : List ℕ). get_or r j 0) (get_or-set_other (replicate n (replicate {A = ℕ} n 0)) home i _ [] other) ∙ zero_rows n i j in
        e ∙ grind (arith, nat_tests)

-- at the start no rights were given away
pub given-start : (n home seats i : ℕ) → home < n → given (start_matrix n home seats) i ≡ 0
given-start n home seats i inside =
    let none : given (start_matrix n home seats) i ≤ length (set (row_of (start_matrix n home seats) i) i 0) * 0 =
    sum_by_below (λ x. x) 0 0 (set (row_of (start_matrix n home seats) i) i 0) (λ k below. at k below (cases_eq k i)) in
    omega (arith, none)
  where
    at : (k : ℕ) → k < length (set (row_of (start_matrix n home seats) i) i 0) → (k ≡ i) ⊎ (k ≢ i) → get_or (set (row_of (start_matrix n home seats) i) i 0) k 0 ≤ 0
    at k below (inl same) =
        let here : get_or (set (row_of (start_matrix n home seats) i) i 0) i 0 ≡ 0 =
        get_or-set_same (row_of (start_matrix n home seats) i) i 0 0 (omega (arith, same, length-set (row_of (start_matrix n home seats) i) i 0)) in
        rw same (omega (arith, here))
    at k below (inr other) =
        let there : get_or (set (row_of (start_matrix n home seats) i) i 0) k 0 ≡ 0 =
        get_or-set_other (row_of (start_matrix n home seats) i) i k 0 0 other ∙ (entry-start n home seats i k inside ∙ start_entry_other (start_matrix n home seats) i k other) in
        omega (arith, there)

-- so that nobody's rights are negative where nothing is taken
pub HasRights-start : (n home seats i : ℕ) → home < n → HasRights (start_matrix n home seats) i 0
HasRights-start n home seats i inside = let none = given-start n home seats i inside in omega (arith, none)
