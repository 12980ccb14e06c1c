-- A list of counters cut into rows.
use Rattle.std.proofs.Common.{◌≡◌, ◌≢◌, ℕ, zero, suc, ◌+◌, ◌-◌, ◌*◌, ◌<◌, ◌≤◌, ◌⊎◌, inl, inr, List, [], ◌∷◌, Bool, true, false, cond, eqb, length, get_or, set, take, drop, replicate, max, refl, sym, ap, subst, ◌∙◌, arith}
use Rattle.std.proofs.lemmas.List.{get_or-take, get_or-drop, get_or_past, length-set, length-take-le, length-drop, length-replicate, take-set-le, drop-set-lt, drop-set-add, take-replicate, drop-replicate, ext_get_or}
use Rattle.std.proofs.Math.Seq.{take-set-lt}
use Rattle.std.proofs.lemmas.Nat.{mul-le}
use Rattle.std.proofs.lemmas.Bool.{cases_lt}
use Rattle.std.proofs.lemmas.Bool.Decides.{nat_tests}
use Rattle.grow_counters.specs.Counts.{maxima, rise_count, kept_count}
use Rattle.rights_matrix.specs.Grid.{rows_of}
use Rattle.rights_matrix.specs.Joined.{joined_rows, rise_counts}

-- the rows of a place come before the end
pub row_inside : (n c i : ℕ) → i < c → i * n + n ≤ c * n
row_inside n c i below = let more : (i + 1) * n ≤ c * n = mul-le (i + 1) n c n (omega arith) (omega arith) in omega arith

pub place_inside : (n c i j : ℕ) → i < c → j < n → i * n + j < c * n
place_inside n c i j below inside = let row = row_inside n c i below in omega arith

-- which counters of the list are kept
kept_in_row : (a n j kept : ℕ) (xs : List ℕ) → j < n → kept_count xs a (a + n) (a + kept) (a + j) ≡ cond (eqb j kept) (get_or xs (a + j) 0) 0
kept_in_row a n j kept xs inside = grind (arith, nat_tests)

kept_outside : (from until at k : ℕ) (xs : List ℕ) → (k < from) ⊎ (until ≤ k) → kept_count xs from until at k ≡ get_or xs k 0
kept_outside from until at k xs (inl before) = grind (arith, nat_tests)
kept_outside from until at k xs (inr after) = grind (arith, nat_tests)

cond_zero : (b : Bool) → ◌≡◌ {A = ℕ} (cond b 0 0) 0
cond_zero true = refl
cond_zero false = refl

pub length-rows_of : (c n : ℕ) (xs : List ℕ) → length (rows_of c n xs) ≡ c
length-rows_of zero n xs = refl
length-rows_of (suc c) n xs = ap suc (length-rows_of c n (drop n xs))

drop_nil : (n : ℕ) → ◌≡◌ {A = List ℕ} (drop n []) []
drop_nil zero = refl
drop_nil (suc n) = refl

drop_on : (n k : ℕ) (xs : List ℕ) → drop k (drop n xs) ≡ drop (n + k) xs
drop_on zero k xs = let same : 0 + k ≡ k = omega arith in rw same refl
drop_on (suc n) k [] = drop_nil k ∙ sym (drop_nil (suc n + k))
drop_on (suc n) k (x ∷ xs) = let same : suc n + k ≡ suc (n + k) = omega arith in rw same (drop_on n k xs)

-- row i is cut from behind i rows
pub get_or-rows_of : (c n i : ℕ) (xs : List ℕ) → i < c → get_or (rows_of c n xs) i [] ≡ take n (drop (i * n) xs)
get_or-rows_of zero n i xs below = absurd (omega arith)
get_or-rows_of (suc c) n zero xs below = let none : 0 * n ≡ 0 = omega arith in rw none refl
get_or-rows_of (suc c) n (suc i) xs below =
    get_or-rows_of c n i (drop n xs) (omega arith) ∙ (let next : n + i * n ≡ suc i * n = omega arith in ap (take n) (drop_on n (i * n) xs ∙ ap (λ k. drop k xs) next))

-- a write to one place is a write to one row
pub rows_of-set : (c n i j v : ℕ) (xs : List ℕ) → i < c → j < n → rows_of c n (set xs (i * n + j) v) ≡ set (rows_of c n xs) i (set (get_or (rows_of c n xs) i []) j v)
rows_of-set zero n i j v xs below inside = absurd (omega arith)
rows_of-set (suc c) n zero j v xs below inside =
    let at : 0 * n + j ≡ j = omega arith in
    rw (at, take-set-lt n xs j v inside, drop-set-lt n xs j v inside) refl
rows_of-set (suc c) n (suc i) j v xs below inside =
    let at : suc i * n + j ≡ n + (i * n + j) = omega arith in
    rw (at, take-set-le n xs (n + (i * n + j)) v (omega arith), drop-set-add n xs (i * n + j) v, rows_of-set c n i j v (drop n xs) (omega arith) inside) refl

-- maxima, cut
take-maxima : (n : ℕ) (xs ys : List ℕ) → take n (maxima xs ys) ≡ maxima (take n xs) (take n ys)
take-maxima zero xs ys = refl
take-maxima (suc n) xs [] = refl
take-maxima (suc n) [] (y ∷ ys) = refl
take-maxima (suc n) (x ∷ xs) (y ∷ ys) = ap (λ zs. max x y ∷ zs) (take-maxima n xs ys)

drop-maxima : (n : ℕ) (xs ys : List ℕ) → drop n (maxima xs ys) ≡ maxima (drop n xs) (drop n ys)
drop-maxima zero xs ys = refl
drop-maxima (suc n) xs [] = refl
drop-maxima (suc n) [] (y ∷ ys) = sym (none (drop n ys))
  where
    none : (zs : List ℕ) → maxima [] zs ≡ []
    none [] = refl
    none (z ∷ zs) = refl
drop-maxima (suc n) (x ∷ xs) (y ∷ ys) = drop-maxima n xs ys

pub rows_of-maxima : (c n : ℕ) (xs ys : List ℕ) → rows_of c n (maxima xs ys) ≡ joined_rows (rows_of c n xs) (rows_of c n ys)
rows_of-maxima zero n xs ys = refl
rows_of-maxima (suc c) n xs ys = rw (take-maxima n xs ys, drop-maxima n xs ys, rows_of-maxima c n (drop n xs) (drop n ys)) refl

-- rises, row by row
rise_count-cut : (n : ℕ) (xs ys : List ℕ) → rise_count xs ys ≡ rise_count (take n xs) (take n ys) + rise_count (drop n xs) (drop n ys)
rise_count-cut zero xs ys = omega arith
rise_count-cut (suc n) [] ys = refl
rise_count-cut (suc n) (x ∷ xs) [] = omega (arith, none (drop n xs))
  where
    none : (zs : List ℕ) → rise_count zs [] ≡ 0
    none [] = refl
    none (z ∷ zs) = refl
rise_count-cut (suc n) (x ∷ xs) (y ∷ ys) = omega (arith, rise_count-cut n xs ys)

pub rise_counts-rows_of : (c n : ℕ) (xs ys : List ℕ) → length xs ≡ c * n → rise_counts (rows_of c n xs) (rows_of c n ys) ≡ rise_count xs ys
rise_counts-rows_of zero n [] ys size = refl
rise_counts-rows_of zero n (x ∷ xs) ys size = absurd (omega arith)
rise_counts-rows_of (suc c) n xs ys size =
    let rest = rise_counts-rows_of c n (drop n xs) (drop n ys) (omega (arith, length-drop n xs)) in
    omega (arith, rise_count-cut n xs ys, rest)

pub rows_of-zeros : (c n : ℕ) → rows_of c n (replicate {A = ℕ} (c * n) 0) ≡ replicate c (replicate {A = ℕ} n 0)
rows_of-zeros zero n = refl
rows_of-zeros (suc c) n =
    let front : take n (replicate {A = ℕ} (suc c * n) 0) ≡ replicate n 0 = take-replicate n (suc c * n) 0 (omega arith) in
    let rest : drop n (replicate {A = ℕ} (suc c * n) 0) ≡ replicate (c * n) 0 = (let less : suc c * n - n ≡ c * n = omega arith in drop-replicate n (suc c * n) 0 ∙ ap (λ k. replicate {A = ℕ} k 0) less) in
    rw (front, rest, rows_of-zeros c n) refl

pub width-rows_of : (c n i : ℕ) (xs : List ℕ) → length xs ≡ c * n → i < c → length (get_or (rows_of c n xs) i []) ≡ n
width-rows_of c n i xs size below =
    ap length (get_or-rows_of c n i xs below) ∙ length-take-le n (drop (i * n) xs) (omega (arith, length-drop (i * n) xs, row_inside n c i below))

pub cell-rows_of : (c n i j : ℕ) (xs : List ℕ) → i < c → j < n → get_or (get_or (rows_of c n xs) i []) j 0 ≡ get_or xs (i * n + j) 0
cell-rows_of c n i j xs below inside =
    ap (λ (x : List ℕ). get_or x j 0) (get_or-rows_of c n i xs below) ∙ (get_or-take n (drop (i * n) xs) j 0 inside ∙ get_or-drop (i * n) xs j 0)

-- What the calls of a grid read and write; r is what contracts see of it.

pub side_is : (n : ℕ) (xs : List ℕ) (r : List (List ℕ)) → rows_of n n xs ≡ r → length r ≡ n
side_is n xs r is_r = subst (λ (x : List (List ℕ)). length x ≡ n) is_r (length-rows_of n n xs)

pub row_read : (n i p : ℕ) (xs : List ℕ) (r : List (List ℕ)) → rows_of n n xs ≡ r → i < length r → p ≡ i * n → take n (drop p xs) ≡ get_or r i []
row_read n i p xs r is_r below place =
    let inside : i < n = omega (arith, side_is n xs r is_r) in
    ap (λ k. take n (drop k xs)) place ∙ (sym (get_or-rows_of n n i xs inside) ∙ ap (λ (x : List (List ℕ)). get_or x i []) is_r)

pub cell_read : (n i j p : ℕ) (xs : List ℕ) (r : List (List ℕ)) → rows_of n n xs ≡ r → i < length r → j < length r → p ≡ i * n + j → get_or xs p 0 ≡ get_or (get_or r i []) j 0
cell_read n i j p xs r is_r below inside place =
    let side = side_is n xs r is_r in
    let row : take n (drop (i * n) xs) ≡ get_or r i [] = row_read n i (i * n) xs r is_r below refl in
    let here : get_or (take n (drop (i * n) xs)) j 0 ≡ get_or xs (i * n + j) 0 = get_or-take n (drop (i * n) xs) j 0 (omega arith) ∙ get_or-drop (i * n) xs j 0 in
    ap (λ k. get_or xs k 0) place ∙ (sym here ∙ ap (λ (x : List ℕ). get_or x j 0) row)

pub set_read : (n i j p by : ℕ) (xs ys : List ℕ) (r : List (List ℕ)) → rows_of n n xs ≡ r → i < length r → j < length r → p ≡ i * n + j → ys ≡ set xs p (get_or xs p 0 + by) → rows_of n n ys ≡ set r i (set (get_or r i []) j (get_or (get_or r i []) j 0 + by))
set_read n i j p by xs ys r is_r below inside place is_ys =
    let side = side_is n xs r is_r in
    let here : get_or xs p 0 ≡ get_or (get_or r i []) j 0 = cell_read n i j p xs r is_r below inside place in
    let cut : rows_of n n (set xs (i * n + j) (get_or (get_or r i []) j 0 + by)) ≡ set (rows_of n n xs) i (set (get_or (rows_of n n xs) i []) j (get_or (get_or r i []) j 0 + by)) =
    rows_of-set n n i j (get_or (get_or r i []) j 0 + by) xs (omega arith) (omega arith) in
    rw (is_ys, here, place) (cut ∙ ap (λ (x : List (List ℕ)). set x i (set (get_or x i []) j (get_or (get_or r i []) j 0 + by))) is_r)

pub join_read : (n m : ℕ) (xs ys zs : List ℕ) (r s : List (List ℕ)) → rows_of n n xs ≡ r → rows_of m m ys ≡ s → length s ≡ length r → zs ≡ maxima xs ys → rows_of n n zs ≡ joined_rows r s
join_read n m xs ys zs r s is_r is_s same is_zs =
    let m_is : m ≡ n = omega (arith, side_is n xs r is_r, side_is m ys s is_s, same) in
    let s_is : rows_of n n ys ≡ s = subst (λ k. rows_of k k ys ≡ s) m_is is_s in
    rw is_zs (rows_of-maxima n n xs ys ∙ (ap (λ (x : List (List ℕ)). joined_rows x (rows_of n n ys)) is_r ∙ ap (λ (x : List (List ℕ)). joined_rows r x) s_is))

pub rises_read : (n got : ℕ) (xs zs : List ℕ) (r : List (List ℕ)) → rows_of n n xs ≡ r → length xs ≡ n * n → got ≡ rise_count xs zs → got ≡ rise_counts r (rows_of n n zs)
rises_read n got xs zs r is_r size is_got =
    is_got ∙ (sym (rise_counts-rows_of n n xs zs size) ∙ ap (λ (x : List (List ℕ)). rise_counts x (rows_of n n zs)) is_r)

-- One row is set back but for one counter.

pub kept_row : (n i kept from until at : ℕ) (xs zs : List ℕ) (r : List (List ℕ)) → rows_of n n xs ≡ r → i < length r → from ≡ i * n → until ≡ i * n + n → at ≡ i * n + kept → length xs ≡ n * n → length zs ≡ length xs → ((k : ℕ) → get_or zs k 0 ≡ kept_count xs from until at k) → (j : ℕ) → get_or (get_or (rows_of n n zs) i []) j 0 ≡ cond (eqb j kept) (get_or (get_or r i []) j 0) 0
kept_row n i kept from until at xs zs r is_r below is_from is_until is_at size same each j = by (cases_lt j n)
  where
    inside : i < n
    inside = omega (arith, side_is n xs r is_r)

    old_row : get_or (rows_of n n xs) i [] ≡ get_or r i []
    old_row = ap (λ (x : List (List ℕ)). get_or x i []) is_r

    by : (j < n) ⊎ (n ≤ j) → get_or (get_or (rows_of n n zs) i []) j 0 ≡ cond (eqb j kept) (get_or (get_or r i []) j 0) 0
    by (inl left) =
        let new : get_or (get_or (rows_of n n zs) i []) j 0 ≡ get_or zs (i * n + j) 0 = cell-rows_of n n i j zs inside left in
        let old : get_or (get_or (rows_of n n xs) i []) j 0 ≡ get_or xs (i * n + j) 0 = cell-rows_of n n i j xs inside left in
        let kept_here : kept_count xs (i * n) (i * n + n) (i * n + kept) (i * n + j) ≡ cond (eqb j kept) (get_or xs (i * n + j) 0) 0 = kept_in_row (i * n) n j kept xs left in
        let counter : get_or zs (i * n + j) 0 ≡ kept_count xs (i * n) (i * n + n) (i * n + kept) (i * n + j) = rw (is_from, is_until, is_at) at (each (i * n + j)) in
        new ∙ (counter ∙ (kept_here ∙ rw (← old, old_row) refl))
    by (inr past) =
        let none_new : get_or (get_or (rows_of n n zs) i []) j 0 ≡ 0 = get_or_past (get_or (rows_of n n zs) i []) j 0 (omega (arith, width-rows_of n n i zs (same ∙ size) inside)) in
        let none_old : get_or (get_or (rows_of n n xs) i []) j 0 ≡ 0 = get_or_past (get_or (rows_of n n xs) i []) j 0 (omega (arith, width-rows_of n n i xs size inside)) in
        rw (← old_row, none_old) (none_new ∙ sym (cond_zero (eqb j kept)))

pub kept_other : (n i kept from until at : ℕ) (xs zs : List ℕ) (r : List (List ℕ)) → rows_of n n xs ≡ r → i < length r → from ≡ i * n → until ≡ i * n + n → length xs ≡ n * n → length zs ≡ length xs → ((k : ℕ) → get_or zs k 0 ≡ kept_count xs from until at k) → (k : ℕ) → k ≢ i → get_or (rows_of n n zs) k [] ≡ get_or r k []
kept_other n i kept from until at xs zs r is_r below is_from is_until size same each k other =
    by (cases_lt k n) ∙ ap (λ (x : List (List ℕ)). get_or x k []) is_r
  where
    inside : i < n
    inside = omega (arith, side_is n xs r is_r)

    outside : (j : ℕ) → j < n → (k < i) ⊎ (i ≤ k) → get_or zs (k * n + j) 0 ≡ get_or xs (k * n + j) 0
    outside j left (inl before) =
        let row : k * n + n ≤ i * n = row_inside n i k before in
        each (k * n + j) ∙ kept_outside from until at (k * n + j) xs (inl (omega arith))
    outside j left (inr after) =
        let row : i * n + n ≤ k * n = row_inside n k i (omega arith) in
        each (k * n + j) ∙ kept_outside from until at (k * n + j) xs (inr (omega arith))

    by : (k < n) ⊎ (n ≤ k) → get_or (rows_of n n zs) k [] ≡ get_or (rows_of n n xs) k []
    by (inl there) =
        ext_get_or 0 (get_or (rows_of n n zs) k []) (get_or (rows_of n n xs) k []) (width-rows_of n n k zs (same ∙ size) there ∙ sym (width-rows_of n n k xs size there)) (λ j left.
        let j_inside : j < n = omega (arith, left, width-rows_of n n k zs (same ∙ size) there) in
        cell-rows_of n n k j zs there j_inside ∙ (outside j j_inside (cases_lt k i) ∙ sym (cell-rows_of n n k j xs there j_inside)))
    by (inr past) =
        get_or_past (rows_of n n zs) k [] (omega (arith, length-rows_of n n zs)) ∙ sym (get_or_past (rows_of n n xs) k [] (omega (arith, length-rows_of n n xs)))
