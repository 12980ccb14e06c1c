-- What a restart keeps is a matrix.
use Rattle.std.proofs.Common.{◌≡◌, ◌≢◌, ℕ, ◌+◌, ◌<◌, ◌≤◌, ◌⊎◌, inl, inr, List, [], length, get_or, eqb, ◌||◌, refl, sym, ap, ◌∙◌, arith}
use Rattle.std.proofs.lemmas.List.{get_or_past}
use Rattle.std.proofs.lemmas.Bool.{cases_lt, cases_cond}
use Rattle.std.proofs.lemmas.Bool.Decides.{nat_tests}
use Rattle.grow_counters.specs.Counts.{counter_limit}
use Rattle.rights_matrix.specs.Kept.{kept_entry}
use Rattle.rights_matrix.specs.Matrix.{MatrixState, site_count, grant, row_of, entry, start_entry, IsValidRow, IsMatrix}
use Rattle.rights_matrix.proofs.MatrixLemmas.{IsMatrix-with_rows}

pub start_entry_own : (m : MatrixState) (i : ℕ) → start_entry m i i ≡ grant m i
start_entry_own m i = grind (arith, nat_tests)

pub start_entry_other : (m : MatrixState) (i j : ℕ) → j ≢ i → start_entry m i j ≡ 0
start_entry_other m i j other = grind (arith, nat_tests)

-- outside the matrix nothing is kept, since nothing is there
pub grant_past : (m : MatrixState) (i : ℕ) → IsMatrix m → site_count m ≤ i → grant m i ≡ 0
grant_past m i h past = let home : m.home < site_count m = h.home in grind (arith, nat_tests)

pub start_entry_past : (m : MatrixState) (i j : ℕ) → IsMatrix m → site_count m ≤ i → start_entry m i j ≡ 0
start_entry_past m i j h past = let none : grant m i ≡ 0 = grant_past m i h past in grind (arith, nat_tests)

pub entry_past : (m : MatrixState) (i j : ℕ) → site_count m ≤ i → entry m i j ≡ 0
entry_past m i j past = ap (λ (row : List ℕ). get_or row j 0) (get_or_past m.rows i [] past)

pub kept_entry_cases : (m : MatrixState) (site i j : ℕ) → (kept_entry m site i j ≡ entry m i j) ⊎ (kept_entry m site i j ≡ start_entry m i j)
kept_entry_cases m site i j = cases_cond (eqb i site || eqb j site) (entry m i j) (start_entry m i j) (kept_entry m site i j) refl

pub kept_entry_past : (m : MatrixState) (site i j : ℕ) → IsMatrix m → site_count m ≤ i → kept_entry m site i j ≡ 0
kept_entry_past m site i j h past = at (kept_entry_cases m site i j)
  where
    at : (kept_entry m site i j ≡ entry m i j) ⊎ (kept_entry m site i j ≡ start_entry m i j) → kept_entry m site i j ≡ 0
    at (inl is) = is ∙ entry_past m i j past
    at (inr is) = is ∙ start_entry_past m i j h past

-- what holds of each row that is there holds of all
pub kept_everywhere : (m : MatrixState) (rows : List (List ℕ)) (site n : ℕ) → IsMatrix m → length rows ≡ site_count m → site_count m ≤ n → ((i : ℕ) → i < n → (j : ℕ) → get_or (get_or rows i []) j 0 ≡ kept_entry m site i j) → (i j : ℕ) → get_or (get_or rows i []) j 0 ≡ kept_entry m site i j
kept_everywhere m rows site n h size all done i j = at (cases_lt i n)
  where
    at : (i < n) ⊎ (n ≤ i) → get_or (get_or rows i []) j 0 ≡ kept_entry m site i j
    at (inl below) = done i below j
    at (inr past) = ap (λ (row : List ℕ). get_or row j 0) (get_or_past rows i [] (omega arith)) ∙ sym (kept_entry_past m site i j h (omega arith))

pub IsValidRow-kept : (m : MatrixState) (site i : ℕ) (row : List ℕ) → IsValidRow m i (row_of m i) → ((j : ℕ) → get_or row j 0 ≡ kept_entry m site i j) → IsValidRow m i row
IsValidRow-kept m site i row v each = record {
  granted = granted (kept_entry_cases m site i i);
  own = own (kept_entry_cases m site i i);
  sent = λ j other. sent j other (kept_entry_cases m site i j);
}
  where
    granted : (kept_entry m site i i ≡ entry m i i) ⊎ (kept_entry m site i i ≡ start_entry m i i) → grant m i ≤ get_or row i 0
    granted (inl is) = omega (arith, each i, is, v.granted)
    granted (inr is) = omega (arith, each i, is, start_entry_own m i)

    own : (kept_entry m site i i ≡ entry m i i) ⊎ (kept_entry m site i i ≡ start_entry m i i) → get_or row i 0 ≤ grant m i + counter_limit
    own (inl is) = omega (arith, each i, is, v.own)
    own (inr is) = omega (arith, each i, is, start_entry_own m i)

    sent : (j : ℕ) → j ≢ i → (kept_entry m site i j ≡ entry m i j) ⊎ (kept_entry m site i j ≡ start_entry m i j) → get_or row j 0 ≤ counter_limit
    sent j other (inl is) = omega (arith, each j, is, v.sent j other)
    sent j other (inr is) = omega (arith, each j, is, start_entry_other m i j other)

-- the rows of a matrix after a restart make a matrix
pub kept_keeps : (m : MatrixState) (rows : List (List ℕ)) (site : ℕ) → IsMatrix m → length rows ≡ site_count m → ((i : ℕ) → length (get_or rows i []) ≡ length (row_of m i)) → ((i j : ℕ) → get_or (get_or rows i []) j 0 ≡ kept_entry m site i j) → IsMatrix (record m { rows = rows })
kept_keeps m rows site h size widths each =
    IsMatrix-with_rows m rows h size (λ i below. record {
      size = widths i ∙ h.square i below;
      valid = IsValidRow-kept m site i (get_or rows i []) (h.valid i below) (each i);
    })
