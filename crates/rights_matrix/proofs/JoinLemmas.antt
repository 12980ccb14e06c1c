-- Joins of rows and of matrices.
use Rattle.std.proofs.Common.{◌≡◌, ℕ, zero, suc, ◌+◌, ◌-◌, ◌<◌, ◌≤◌, List, [], ◌∷◌, length, get_or, set, take, cond, ltb, max, refl, sym, ap, ◌∙◌, arith}
use Rattle.std.proofs.lemmas.List.{get_or-set_same, set-set, set-get_or}
use Rattle.std.proofs.lemmas.Bool.Decides.{nat_tests}
use Rattle.grow_counters.specs.Counts.{maxima, rise_count}
use Rattle.grow_counters.proofs.CountsLemmas.{length-maxima, get_or-maxima, rise_count-same, get_or-maxima-take, maxima-take_more, rise_count-take_more}
use Rattle.rights_matrix.specs.Joined.{joined_rows, rise_counts, joined, joined_at}
use Rattle.rights_matrix.specs.Matrix.{MatrixState, site_count, grant, row_of, entry, raised, IsValidRow, IsMatrix, SameShape}
use Rattle.rights_matrix.proofs.MatrixLemmas.{FitsAt, IsMatrix-with_rows, IsMatrix-set_row}

-- the maxima of two valid rows are valid; the second may be shorter
pub IsValidRow-maxima : (m : MatrixState) (s : ℕ) (xs ys : List ℕ) → length ys ≤ length xs → IsValidRow m s xs → IsValidRow m s ys → IsValidRow m s (maxima xs ys)
IsValidRow-maxima m s xs ys fits a b =
    let at : (k : ℕ) → get_or (maxima xs ys) k 0 ≡ max (get_or xs k 0) (get_or ys k 0) = λ k. get_or-maxima xs ys k fits in
    record {
      granted = omega (arith, at s, a.granted);
      own = omega (arith, at s, a.own, b.own);
      sent = λ j other. omega (arith, at j, a.sent j other, b.sent j other);
    }

pub length-joined_rows : (xs ys : List (List ℕ)) → length (joined_rows xs ys) ≡ length xs
length-joined_rows xs [] = refl
length-joined_rows [] (y ∷ ys) = refl
length-joined_rows (x ∷ xs) (y ∷ ys) = ap suc (length-joined_rows xs ys)

pub get_or-joined_rows : (xs ys : List (List ℕ)) (k : ℕ) → length ys ≤ length xs → get_or (joined_rows xs ys) k [] ≡ maxima (get_or xs k []) (get_or ys k [])
get_or-joined_rows xs [] k fits = refl
get_or-joined_rows [] (y ∷ ys) k fits = absurd (omega arith)
get_or-joined_rows (x ∷ xs) (y ∷ ys) zero fits = refl
get_or-joined_rows (x ∷ xs) (y ∷ ys) (suc k) fits = get_or-joined_rows xs ys k (omega arith)

-- the join of two matrices of one shape is one
pub IsMatrix-joined : (a b : MatrixState) → IsMatrix a → IsMatrix b → SameShape a b → IsMatrix (joined a b)
IsMatrix-joined a b in_a in_b same =
    IsMatrix-with_rows a (joined_rows a.rows b.rows) in_a (length-joined_rows a.rows b.rows) (λ i below. at_place i below)
  where
    grants : (i : ℕ) → grant b i ≡ grant a i
    grants i = rw (same.home, same.seats) refl

    at_place : (i : ℕ) → i < site_count a → FitsAt a i (get_or (joined_rows a.rows b.rows) i [])
    at_place i below =
        let below_b : i < site_count b = omega (arith, same.sites) in
        let size_a : length (row_of a i) ≡ site_count a = in_a.square i below in
        let size_b : length (row_of b i) ≡ site_count a = in_b.square i below_b ∙ same.sites in
        let v = in_b.valid i below_b in
        let valid_b : IsValidRow a i (row_of b i) = record {
          granted = omega (arith, grants i, v.granted);
          own = omega (arith, grants i, v.own);
          sent = v.sent;
        } in
        rw (get_or-joined_rows a.rows b.rows i (omega (arith, same.sites))) (record {
          size = length-maxima (row_of a i) (row_of b i) ∙ size_a;
          valid = IsValidRow-maxima a i (row_of a i) (row_of b i) (omega (arith, size_a, size_b)) (in_a.valid i below) valid_b;
        })

-- a matrix stays one where a valid row is joined to its row s
pub IsMatrix-joined_at : (m : MatrixState) (s : ℕ) (row : List ℕ) → IsMatrix m → s < site_count m → length row ≤ site_count m → IsValidRow m s row → IsMatrix (joined_at m s row)
IsMatrix-joined_at m s row h inside fits valid =
    let size : length (row_of m s) ≡ site_count m = h.square s inside in
    IsMatrix-set_row m s (maxima (row_of m s) row) h inside (record {
      size = length-maxima (row_of m s) row ∙ size;
      valid = IsValidRow-maxima m s (row_of m s) row (omega (arith, size)) (h.valid s inside) valid;
    })

-- the same, for the fields of a matrix whose rows were joined
pub join_keeps : (a0 a b0 b : MatrixState) (rows : List (List ℕ)) → a0 ≡ a → b0 ≡ b → IsMatrix a0 → IsMatrix b0 → SameShape a b → rows ≡ joined_rows a0.rows b0.rows → IsMatrix (record a0 { rows = rows })
join_keeps a0 a b0 b rows is_a is_b in_a in_b same is_joined =
    let same' : SameShape a0 b0 = rw (is_a, is_b) same in
    rw is_joined (IsMatrix-joined a0 b0 in_a in_b same')

-- one row of a matrix is set
pub rise_counts-set : (xs ys : List (List ℕ)) (i : ℕ) (row : List ℕ) → i < length xs → i < length ys → get_or ys i [] ≡ get_or xs i [] → rise_counts xs (set ys i row) ≡ rise_counts xs ys + rise_count (get_or ys i []) row
rise_counts-set [] ys i row in_xs in_ys same = absurd (omega arith)
rise_counts-set (x ∷ xs) [] i row in_xs in_ys same = absurd (omega arith)
rise_counts-set (x ∷ xs) (y ∷ ys) zero row in_xs in_ys same =
    let nothing : rise_count x y ≡ 0 = rw same (rise_count-same x) in rw (nothing, same) (omega arith)
rise_counts-set (x ∷ xs) (y ∷ ys) (suc i) row in_xs in_ys same =
    let rest = rise_counts-set xs ys i row (omega arith) (omega arith) same in omega arith

pub rise_counts-same : (xs : List (List ℕ)) → rise_counts xs xs ≡ 0
rise_counts-same [] = refl
rise_counts-same (x ∷ xs) = omega (arith, rise_count-same x, rise_counts-same xs)

-- the same, counted on the way: the row was as it was at first
pub rise_counts-onward : (xs ys : List (List ℕ)) (i : ℕ) (row : List ℕ) → i < length xs → i < length ys → get_or ys i [] ≡ get_or xs i [] → rise_counts xs (set ys i row) ≡ rise_counts xs ys + rise_counts ys (set ys i row)
rise_counts-onward xs ys i row in_xs in_ys same =
    omega (arith, rise_counts-set xs ys i row in_xs in_ys same, rise_counts-set ys ys i row in_ys in_ys refl, rise_counts-same ys)

-- nothing of a row joined
pub joined_at-start : (m : MatrixState) (s : ℕ) → m ≡ joined_at m s []
joined_at-start m s = ap (λ (rows : List (List ℕ)). record m { rows = rows }) (sym (set-get_or m.rows s []))

-- what rises in one row is what rises in the matrix
pub rise_counts-joined_at : (m : MatrixState) (s : ℕ) (row : List ℕ) → s < site_count m → rise_counts m.rows (joined_at m s row).rows ≡ rise_count (row_of m s) (maxima (row_of m s) row)
rise_counts-joined_at m s row inside =
    omega (arith, rise_counts-set m.rows m.rows s (maxima (row_of m s) row) inside inside refl, rise_counts-same m.rows)

-- a row joined so far, and one counter more: entry (s, j) is raised to it
pub joined_at-more : (m now : MatrixState) (s j by : ℕ) (row : List ℕ) → IsMatrix m → s < site_count m → j < length row → length row ≤ site_count m → now ≡ joined_at m s (take j row) → by ≡ get_or row j 0 - entry now s j → raised now s j by ≡ joined_at m s (take (j + 1) row)
joined_at-more m now s j by row h inside in_row fits is_now is_by =
    let size : length (row_of m s) ≡ site_count m = h.square s inside in
    let so_far : List ℕ = maxima (row_of m s) (take j row) in
    let here : get_or (set m.rows s so_far) s [] ≡ so_far = get_or-set_same m.rows s so_far [] inside in
    let read : get_or so_far j 0 ≡ get_or (row_of m s) j 0 = get_or-maxima-take (row_of m s) row j in_row (omega arith) in
    let top : get_or so_far j 0 + (get_or row j 0 - get_or so_far j 0) ≡ max (get_or (row_of m s) j 0) (get_or row j 0) = omega (arith, read) in
    rw (is_by, is_now, here, top, set-set m.rows s so_far _, ← maxima-take_more (row_of m s) row j in_row (omega arith)) refl

pub rise_counts-more : (m now : MatrixState) (s j by : ℕ) (row : List ℕ) → IsMatrix m → s < site_count m → j < length row → length row ≤ site_count m → now ≡ joined_at m s (take j row) → by ≡ get_or row j 0 - entry now s j → rise_counts m.rows (joined_at m s (take (j + 1) row)).rows ≡ rise_counts m.rows now.rows + cond (ltb 0 by) 1 0
rise_counts-more m now s j by row h inside in_row fits is_now is_by =
    let size : length (row_of m s) ≡ site_count m = h.square s inside in
    let so_far : List ℕ = maxima (row_of m s) (take j row) in
    let here : get_or (set m.rows s so_far) s [] ≡ so_far = get_or-set_same m.rows s so_far [] inside in
    let read : get_or so_far j 0 ≡ get_or (row_of m s) j 0 = get_or-maxima-take (row_of m s) row j in_row (omega arith) in
    let one = rise_count-take_more (row_of m s) row j in_row (omega arith) in
    let now_is = rise_counts-joined_at m s (take j row) inside in
    let then_is = rise_counts-joined_at m s (take (j + 1) row) inside in
    rw (is_by, is_now, here, read, then_is, now_is, one) (grind (arith, nat_tests))
