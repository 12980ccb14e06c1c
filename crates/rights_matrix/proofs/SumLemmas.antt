-- Bounds on sums.
use Rattle.std.proofs.Common.{◌≡◌, ℕ, suc, ◌+◌, ◌*◌, ◌<◌, ◌≤◌, List, [], ◌∷◌, length, get_or, take, sum_by, sym, ap, ◌∙◌, arith}
use Rattle.std.proofs.lemmas.List.Sums.{sum_by-cons, sum_by_more}
use Rattle.std.proofs.lemmas.List.{get_or_read}

-- a sum of terms that are no greater than m
pub sum_by_below : {X : Type 0} (f : X → ℕ) (m : ℕ) (d : X) (xs : List X) → ((k : ℕ) → k < length xs → f (get_or xs k d) ≤ m) → sum_by f xs ≤ length xs * m
sum_by_below f m d [] h = omega arith
sum_by_below f m d (x ∷ xs) h =
    let first : f x ≤ m = h 0 (omega arith) in
    let rest : sum_by f xs ≤ length xs * m = sum_by_below f m d xs (λ k l. h (suc k) (omega arith)) in
    rw (sum_by-cons f x xs) (omega (arith, first, rest))

-- one more row of a column that is summed
pub column_step : (rows : List (List ℕ)) (i k all got : ℕ) (row : List ℕ) → k < length rows → row ≡ get_or rows k row → got ≡ get_or row i 0 → all ≡ sum_by (λ (r : List ℕ). get_or r i 0) (take k rows) → all + got ≡ sum_by (λ (r : List ℕ). get_or r i 0) (take (k + 1) rows)
column_step rows i k all got row inside read is_got so_far =
    let row_is : row ≡ get_or rows k [] = get_or_read rows k row inside read [] in
    let here : got ≡ get_or (get_or rows k []) i 0 = is_got ∙ ap (λ (r : List ℕ). get_or r i 0) row_is in
    rw (so_far, here) (sym (sum_by_more (λ (r : List ℕ). get_or r i 0) rows k [] inside))

-- an entry that was read is one of the column's
pub column_entry_small : (rows : List (List ℕ)) (i k got m : ℕ) (row : List ℕ) → k < length rows → row ≡ get_or rows k row → got ≡ get_or row i 0 → ((j : ℕ) → j < length rows → get_or (get_or rows j []) i 0 ≤ m) → got ≤ m
column_entry_small rows i k got m row inside read is_got small =
    let row_is : row ≡ get_or rows k [] = get_or_read rows k row inside read [] in
    rw (is_got, row_is) (small k inside)
