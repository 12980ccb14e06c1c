-- Entry by entry: the start, a rise and the joins.
use Rattle.std.proofs.Common.{◌≡◌, ◌≢◌, ℕ, ◌+◌, ◌<◌, ◌≤◌, ◌⊎◌, inl, inr, List, [], length, get_or, max, ap, ◌∙◌, arith}
use Rattle.std.proofs.lemmas.List.{get_or-set_same, get_or-set_other, get_or_past}
use Rattle.std.proofs.lemmas.Bool.{cases_lt}
use Rattle.grow_counters.specs.Counts.{maxima}
use Rattle.grow_counters.proofs.CountsLemmas.{get_or-maxima}
use Rattle.rights_matrix.specs.Joined.{joined_rows, joined, joined_at}
use Rattle.rights_matrix.specs.Matrix.{MatrixState, site_count, row_of, entry, IsMatrix, SameShape, raised}
use Rattle.rights_matrix.proofs.JoinLemmas.{get_or-joined_rows}

-- a rise is at its place
pub entry-raised : (m : MatrixState) (i j n : ℕ) → i < site_count m → j < length (row_of m i) → entry (raised m i j n) i j ≡ entry m i j + n
entry-raised m i j n in_m in_row =
    ap (λ (row : List ℕ). get_or row j 0) (get_or-set_same m.rows i _ [] in_m) ∙ get_or-set_same (row_of m i) j _ 0 in_row

-- and nowhere else
pub entry-raised_row : (m : MatrixState) (i j n k l : ℕ) → k ≢ i → entry (raised m i j n) k l ≡ entry m k l
entry-raised_row m i j n k l other = ap (λ (row : List ℕ). get_or row l 0) (get_or-set_other m.rows i k _ [] other)

pub entry-raised_column : (m : MatrixState) (i j n l : ℕ) → i < site_count m → l ≢ j → entry (raised m i j n) i l ≡ entry m i l
entry-raised_column m i j n l in_m other =
    ap (λ (row : List ℕ). get_or row l 0) (get_or-set_same m.rows i _ [] in_m) ∙ get_or-set_other (row_of m i) j l _ 0 other

-- a joined matrix has the maxima
pub entry-joined : (a b : MatrixState) (i j : ℕ) → IsMatrix a → IsMatrix b → SameShape a b → entry (joined a b) i j ≡ max (entry a i j) (entry b i j)
entry-joined a b i j in_a in_b same = at (cases_lt i (site_count a))
  where
    row : get_or (joined_rows a.rows b.rows) i [] ≡ maxima (row_of a i) (row_of b i)
    row = get_or-joined_rows a.rows b.rows i (omega (arith, same.sites))

    narrow : (i < site_count a) ⊎ (site_count a ≤ i) → length (row_of b i) ≤ length (row_of a i)
    narrow (inl below) = omega (arith, in_a.square i below, in_b.square i (omega (arith, same.sites)), same.sites)
    narrow (inr past) =
        let none : length (row_of b i) ≡ 0 = ap length (get_or_past b.rows i [] (omega (arith, same.sites))) in
        omega (arith, none)

    at : (i < site_count a) ⊎ (site_count a ≤ i) → entry (joined a b) i j ≡ max (entry a i j) (entry b i j)
    at w = ap (λ (r : List ℕ). get_or r j 0) row ∙ get_or-maxima (row_of a i) (row_of b i) j (narrow w)

-- what is heard of one row raises that row alone
pub entry-joined_at : (m : MatrixState) (s j : ℕ) (row : List ℕ) → IsMatrix m → s < site_count m → length row ≤ site_count m → entry (joined_at m s row) s j ≡ max (entry m s j) (get_or row j 0)
entry-joined_at m s j row h in_m fits =
    ap (λ (r : List ℕ). get_or r j 0) (get_or-set_same m.rows s _ [] in_m) ∙ get_or-maxima (row_of m s) row j (omega (arith, h.square s in_m))

pub entry-joined_at_other : (m : MatrixState) (s i j : ℕ) (row : List ℕ) → i ≢ s → entry (joined_at m s row) i j ≡ entry m i j
entry-joined_at_other m s i j row other = ap (λ (r : List ℕ). get_or r j 0) (get_or-set_other m.rows s i _ [] other)
