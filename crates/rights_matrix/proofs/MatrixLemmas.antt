-- What keeps a matrix valid.
use Rattle.std.proofs.Common.{◌≡◌, ◌≢◌, ℕ, ◌+◌, ◌*◌, ◌^◌, ◌<◌, ◌≤◌, ◌⊎◌, inl, inr, List, [], length, get_or, set, sum, sym, ap, ◌∙◌, arith}
use Rattle.std.proofs.lemmas.List.{get_or-set_same, get_or-set_other, length-set}
use Rattle.std.proofs.lemmas.List.Sums.{sum_by-set}
use Rattle.std.proofs.lemmas.Bool.{cases_eq}
use Rattle.std.proofs.lemmas.Bool.Decides.{nat_tests}
use Rattle.rights_matrix.specs.Matrix.{MatrixState, site_count, grant, row_of, entry, gained, given, IsValidRow, IsMatrix}
use Rattle.rights_matrix.proofs.SumLemmas.{sum_by_below}

-- a row of the right length and valid
pub record FitsAt (m : MatrixState) (s : ℕ) (row : List ℕ) : Type 0 where
  pub size : length row ≡ site_count m
  pub valid : IsValidRow m s row

-- other rows of the right number and kind make a matrix
pub IsMatrix-with_rows : (m : MatrixState) (rows : List (List ℕ)) → IsMatrix m → length rows ≡ site_count m → ((i : ℕ) → i < site_count m → FitsAt m i (get_or rows i [])) → IsMatrix (record m { rows = rows })
IsMatrix-with_rows m rows h n each = record {
  home = omega (arith, h.home, n);
  few_sites = omega (arith, h.few_sites, n);
  few_seats = h.few_seats;
  square = λ i below. (each i (omega (arith, n))).size ∙ sym n;
  valid = λ i below.
      let v = (each i (omega (arith, n))).valid in
      record { granted = v.granted; own = v.own; sent = v.sent };
}

pub row_fits : (m : MatrixState) (i : ℕ) → IsMatrix m → i < site_count m → FitsAt m i (row_of m i)
row_fits m i h below = record { size = h.square i below; valid = h.valid i below }

-- a valid row may take the place of row s
pub IsMatrix-set_row : (m : MatrixState) (s : ℕ) (row : List ℕ) → IsMatrix m → s < site_count m → FitsAt m s row → IsMatrix (record m { rows = set m.rows s row })
IsMatrix-set_row m s row h inside fits =
    IsMatrix-with_rows m (set m.rows s row) h (length-set m.rows s row) (λ i below. at_place i below (cases_eq i s))
  where
    at_place : (i : ℕ) → i < site_count m → (i ≡ s) ⊎ (i ≢ s) → FitsAt m i (get_or (set m.rows s row) i [])
    at_place i below (inl same) = rw same (rw (get_or-set_same m.rows s row [] inside) fits)
    at_place i below (inr other) = rw (get_or-set_other m.rows s i row [] other) (row_fits m i h below)

-- each entry is small enough that sixteen of them have a sum of 64 bits
pub entry_small : (m : MatrixState) (i j : ℕ) → IsMatrix m → i < site_count m → entry m i j ≤ 2000000000000
entry_small m i j h below = at_place (cases_eq j i)
  where
    valid : IsValidRow m i (row_of m i)
    valid = h.valid i below

    grant_small : grant m i < 2 ^ 32
    grant_small = let few : m.seats < 2 ^ 32 = h.few_seats in grind (arith, nat_tests)

    at_place : (j ≡ i) ⊎ (j ≢ i) → entry m i j ≤ 2000000000000
    at_place (inl same) = let own = valid.own in rw same (omega (arith, grant_small, own))
    at_place (inr other) = let sent = valid.sent j other in omega (arith, sent)

-- so that the sums are far below 64 bits
pub row_sum_small : (m : MatrixState) (i : ℕ) → IsMatrix m → i < site_count m → sum (row_of m i) ≤ 32000000000000
row_sum_small m i h below =
    let few : length (row_of m i) ≤ 16 = omega (arith, h.square i below, h.few_sites) in
    let bound : sum (row_of m i) ≤ length (row_of m i) * 2000000000000 = sum_by_below (λ x. x) 2000000000000 0 (row_of m i) (λ k l. entry_small m i k h below) in
    omega (arith, few, bound)

pub gained_small : (m : MatrixState) (i : ℕ) → IsMatrix m → gained m i ≤ 32000000000000
gained_small m i h =
    let few : length m.rows ≤ 16 = h.few_sites in
    let bound : gained m i ≤ length m.rows * 2000000000000 = sum_by_below (λ (row : List ℕ). get_or row i 0) 2000000000000 [] m.rows (λ k l. entry_small m k i h l) in
    omega (arith, few, bound)

pub given_small : (m : MatrixState) (i : ℕ) → IsMatrix m → i < site_count m → given m i ≤ 32000000000000
given_small m i h below =
    let whole : given m i + entry m i i ≡ sum (row_of m i) + 0 = sum_by-set (λ x. x) (row_of m i) i 0 0 (omega (arith, h.square i below)) in
    omega (arith, whole, row_sum_small m i h below)

-- the same, for a row as the code reads it
pub read_row_sum_small : (m0 m : MatrixState) (i : ℕ) (row : List ℕ) → m0 ≡ m → IsMatrix m0 → i < site_count m → row ≡ row_of m0 i → sum row ≤ 32000000000000
read_row_sum_small m0 m i row is_m h inside read =
    let inside' : i < site_count m0 = rw is_m inside in
    rw read (row_sum_small m0 i h inside')
