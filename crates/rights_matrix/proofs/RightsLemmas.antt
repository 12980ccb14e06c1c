-- How rights change where one entry rises.
use Rattle.std.proofs.Common.{◌≡◌, ◌≢◌, ℕ, suc, ◌+◌, ◌<◌, ◌≤◌, ◌⊎◌, inl, inr, List, [], ◌∷◌, length, get_or, set, sum, sum_by, cond, eqb, max, None, refl, sym, subst, ap, ◌∙◌, arith}
use Rattle.std.proofs.lemmas.List.{get_or-set_same, get_or-set_other, length-set, set-set, set_comm}
use Rattle.std.proofs.lemmas.List.Sums.{sum_by-set, sum_by-cons}
use Rattle.std.proofs.lemmas.List.{get_or_read, ext_get_or}
use Rattle.std.proofs.lemmas.Bool.{cases_eq}
use Rattle.std.proofs.lemmas.Bool.Decides.{nat_tests}
use Rattle.grow_counters.specs.Counts.{maxima}
use Rattle.grow_counters.proofs.CountsLemmas.{get_or-maxima}
use Rattle.grow_counters.specs.Counts.{counter_limit}
use Rattle.rights_matrix.specs.Changes.{MovesRights, MakesRights, SameRightsAt}
use Rattle.rights_matrix.specs.Joined.{joined_at}
use Rattle.rights_matrix.specs.Kept.{kept_entry}
use Rattle.rights_matrix.specs.Transfer.{refusal_of}
use Rattle.rights_matrix.specs.Matrix.{MatrixState, site_count, row_of, entry, gained, given, rights_of, HasRights, IsMatrix, raised}

-- the receiver gains what is sent, or what comes back
pub gained-raised : (m : MatrixState) (i j n : ℕ) → i < site_count m → j < length (row_of m i) → gained (raised m i j n) j ≡ gained m j + n
gained-raised m i j n in_m in_row =
    let row : List ℕ = set (row_of m i) j (entry m i j + n) in
    let whole : gained (raised m i j n) j + entry m i j ≡ gained m j + get_or row j 0 = sum_by-set (λ r. get_or r j 0) m.rows i row [] in_m in
    let here : get_or row j 0 ≡ entry m i j + n = get_or-set_same (row_of m i) j _ 0 in_row in
    omega (arith, whole, here)

-- nobody else gains
pub gained-raised_other : (m : MatrixState) (i j n k : ℕ) → i < site_count m → k ≢ j → gained (raised m i j n) k ≡ gained m k
gained-raised_other m i j n k in_m other =
    let row : List ℕ = set (row_of m i) j (entry m i j + n) in
    let whole : gained (raised m i j n) k + entry m i k ≡ gained m k + get_or row k 0 = sum_by-set (λ r. get_or r k 0) m.rows i row [] in_m in
    let here : get_or row k 0 ≡ entry m i k = get_or-set_other (row_of m i) j k _ 0 other in
    omega (arith, whole, here)

-- the giver has given what is sent
pub given-raised : (m : MatrixState) (i j n : ℕ) → i < site_count m → j < length (row_of m i) → j ≢ i → given (raised m i j n) i ≡ given m i + n
given-raised m i j n in_m in_row other =
    let zeroed : List ℕ = set (row_of m i) i 0 in
    let row : List ℕ = set (row_of m i) j (entry m i j + n) in
    let same_row : get_or (set m.rows i row) i [] ≡ row = get_or-set_same m.rows i row [] in_m in
    let moved : set row i 0 ≡ set zeroed j (entry m i j + n) = set_comm (row_of m i) j i (entry m i j + n) 0 other in
    let whole : sum (set zeroed j (entry m i j + n)) + get_or zeroed j 0 ≡ given m i + (entry m i j + n) =
    sum_by-set (λ x. x) zeroed j (entry m i j + n) 0 (omega (arith, length-set (row_of m i) i 0)) in
    let here : get_or zeroed j 0 ≡ entry m i j = get_or-set_other (row_of m i) i j 0 0 other in
    let total : given (raised m i j n) i ≡ sum (set zeroed j (entry m i j + n)) = ap (λ (r : List ℕ). sum (set r i 0)) same_row ∙ ap sum moved in
    omega (arith, total, whole, here)

-- rights that come back are given to nobody
pub given-raised_own : (m : MatrixState) (i n : ℕ) → i < site_count m → given (raised m i i n) i ≡ given m i
given-raised_own m i n in_m =
    ap (λ (r : List ℕ). sum (set r i 0)) (get_or-set_same m.rows i _ [] in_m) ∙ ap sum (set-set (row_of m i) i _ 0)

-- nobody else gives
pub given-raised_other : (m : MatrixState) (i j n k : ℕ) → k ≢ i → given (raised m i j n) k ≡ given m k
given-raised_other m i j n k other = ap (λ (row : List ℕ). sum (set row k 0)) (get_or-set_other m.rows i k _ [] other)

-- a rise of entry (i, j) between two sites moves rights
pub MovesRights-raised : (m : MatrixState) (i j n : ℕ) → IsMatrix m → i < site_count m → j < site_count m → j ≢ i → MovesRights m (raised m i j n) i j n
MovesRights-raised m i j n h in_i in_j other = record {
  received = λ k. received k (cases_eq k j);
  sent = λ k. sent k (cases_eq k i);
}
  where
    in_row : j < length (row_of m i)
    in_row = omega (arith, h.square i in_i)

    received : (k : ℕ) → (k ≡ j) ⊎ (k ≢ j) → gained (raised m i j n) k ≡ gained m k + cond (eqb k j) n 0
    received k (inl same) = let e = gained-raised m i j n in_i in_row in rw same (grind (arith, nat_tests, e))
    received k (inr apart) = let e = gained-raised_other m i j n k in_i apart in grind (arith, nat_tests, e)

    sent : (k : ℕ) → (k ≡ i) ⊎ (k ≢ i) → given (raised m i j n) k ≡ given m k + cond (eqb k i) n 0
    sent k (inl same) = let e = given-raised m i j n in_i in_row other in rw same (grind (arith, nat_tests, e))
    sent k (inr apart) = let e = given-raised_other m i j n k apart in grind (arith, nat_tests, e)

-- a rise of entry (i, i) makes rights
pub MakesRights-raised : (m : MatrixState) (i n : ℕ) → IsMatrix m → i < site_count m → MakesRights m (raised m i i n) i n
MakesRights-raised m i n h in_i = record {
  made = λ k. made k (cases_eq k i);
  sent = λ k. sent k (cases_eq k i);
}
  where
    in_row : i < length (row_of m i)
    in_row = omega (arith, h.square i in_i)

    made : (k : ℕ) → (k ≡ i) ⊎ (k ≢ i) → gained (raised m i i n) k ≡ gained m k + cond (eqb k i) n 0
    made k (inl same) = let e = gained-raised m i i n in_i in_row in rw same (grind (arith, nat_tests, e))
    made k (inr apart) = let e = gained-raised_other m i i n k in_i apart in grind (arith, nat_tests, e)

    sent : (k : ℕ) → (k ≡ i) ⊎ (k ≢ i) → given (raised m i i n) k ≡ given m k
    sent k (inl same) = rw same (given-raised_own m i n in_i)
    sent k (inr apart) = given-raised_other m i i n k apart

-- two sums over equally many rows with the same terms
pub sum_by-same : {X : Type 0} (f : X → ℕ) (d : X) (xs ys : List X) → length xs ≡ length ys → ((k : ℕ) → f (get_or xs k d) ≡ f (get_or ys k d)) → sum_by f xs ≡ sum_by f ys
sum_by-same f d [] [] size each = refl
sum_by-same f d [] (y ∷ ys) size each = absurd (omega arith)
sum_by-same f d (x ∷ xs) [] size each = absurd (omega arith)
sum_by-same f d (x ∷ xs) (y ∷ ys) size each =
    let first : f x ≡ f y = each 0 in
    let rest : sum_by f xs ≡ sum_by f ys = sum_by-same f d xs ys (omega arith) (λ k. each (suc k)) in
    rw (sum_by-cons f x xs, sum_by-cons f y ys) (omega (arith, first, rest))

-- a restart of a site keeps what its own rights are made of
pub SameRightsAt-kept : (m : MatrixState) (rows : List (List ℕ)) (site : ℕ) → length rows ≡ site_count m → length (get_or rows site []) ≡ length (row_of m site) → ((i j : ℕ) → get_or (get_or rows i []) j 0 ≡ kept_entry m site i j) → SameRightsAt m (record m { rows = rows }) site
SameRightsAt-kept m rows site size width each = record {
  gained = sum_by-same (λ (row : List ℕ). get_or row site 0) [] rows m.rows size (λ k. each k site ∙ in_column k);
  sent = ap (λ (row : List ℕ). sum (set row site 0)) same_row;
}
  where
    in_column : (k : ℕ) → kept_entry m site k site ≡ entry m k site
    in_column k = grind (arith, nat_tests)

    in_row : (k : ℕ) → kept_entry m site site k ≡ entry m site k
    in_row k = grind (arith, nat_tests)

    same_row : get_or rows site [] ≡ row_of m site
    same_row = ext_get_or 0 (get_or rows site []) (row_of m site) width (λ k below. each site k ∙ in_row k)

-- what the table of refusals says where it refuses nothing
pub transfer_allowed : (m : MatrixState) (i j n rights : ℕ) → refusal_of m i j n rights ≡ None → (j ≢ i) × (entry m i j + n ≤ counter_limit) × (n ≤ rights)
transfer_allowed m i j n rights none = (grind (arith, nat_tests), grind (arith, nat_tests), grind (arith, nat_tests))

-- after a transfer the giver's rights are still no negative number
pub HasRights-transfer : (m : MatrixState) (i j n taken : ℕ) → IsMatrix m → i < site_count m → j < site_count m → j ≢ i → n ≤ rights_of m i taken → HasRights m i taken → HasRights (raised m i j n) i taken
HasRights-transfer m i j n taken h in_i in_j other enough has =
    let in_row : j < length (row_of m i) = omega (arith, h.square i in_i) in
    let more = given-raised m i j n in_i in_row other in
    let same = gained-raised_other m i j n i in_i (λ e. other (sym e)) in
    omega (arith, more, same)

-- what is heard of another site takes no rights away
pub HasRights-joined_at : (m : MatrixState) (s i taken : ℕ) (row : List ℕ) → IsMatrix m → s < site_count m → length row ≤ site_count m → i ≢ s → HasRights m i taken → HasRights (joined_at m s row) i taken
HasRights-joined_at m s i taken row h in_s fits other has =
    let whole : gained (joined_at m s row) i + entry m s i ≡ gained m i + get_or (maxima (row_of m s) row) i 0 = sum_by-set (λ r. get_or r i 0) m.rows s (maxima (row_of m s) row) [] in_s in
    let here : get_or (maxima (row_of m s) row) i 0 ≡ max (entry m s i) (get_or row i 0) = get_or-maxima (row_of m s) row i (omega (arith, h.square s in_s)) in
    let sent : given (joined_at m s row) i ≡ given m i = ap (λ (r : List ℕ). sum (set r i 0)) (get_or-set_other m.rows s i (maxima (row_of m s) row) [] other) in
    omega (arith, whole, here, sent)

-- the same, for the fields of a matrix after a write to entry (i, j)
pub moves_read : (m0 m : MatrixState) (i j n : ℕ) (rows : List (List ℕ)) → m0 ≡ m → IsMatrix m0 → i < site_count m → j < site_count m → j ≢ i → rows ≡ set m0.rows i (set (row_of m0 i) j (entry m0 i j + n)) → MovesRights m (record m0 { rows = rows }) i j n
moves_read m0 m i j n rows is_m h in_i in_j other is_rows =
    let moves : MovesRights m0 (raised m0 i j n) i j n = MovesRights-raised m0 i j n h (rw is_m in_i) (rw is_m in_j) other in
    subst (λ (x : MatrixState). MovesRights x (record m0 { rows = rows }) i j n) is_m (rw is_rows moves)

pub makes_read : (m0 m : MatrixState) (i n : ℕ) (rows : List (List ℕ)) → m0 ≡ m → IsMatrix m0 → i < site_count m → rows ≡ set m0.rows i (set (row_of m0 i) i (entry m0 i i + n)) → MakesRights m (record m0 { rows = rows }) i n
makes_read m0 m i n rows is_m h in_i is_rows =
    let makes : MakesRights m0 (raised m0 i i n) i n = MakesRights-raised m0 i n h (rw is_m in_i) in
    subst (λ (x : MatrixState). MakesRights x (record m0 { rows = rows }) i n) is_m (rw is_rows makes)

pub kept_read : (m0 m : MatrixState) (rows : List (List ℕ)) (site : ℕ) → m0 ≡ m → length rows ≡ site_count m0 → ((k : ℕ) → length (get_or rows k []) ≡ length (row_of m0 k)) → ((i j : ℕ) → get_or (get_or rows i []) j 0 ≡ kept_entry m0 site i j) → SameRightsAt m (record m0 { rows = rows }) site
kept_read m0 m rows site is_m size widths each =
    subst (λ (x : MatrixState). SameRightsAt x (record m0 { rows = rows }) site) is_m (SameRightsAt-kept m0 rows site size (widths site) each)
