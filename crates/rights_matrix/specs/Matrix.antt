-- The rights matrix of a bounded counter (Balegas et al., "Extending Eventually Consistent Cloud Databases
-- for Enforcing Numeric Invariants", 2015). Entry (i, i) counts the increments made at site i, entry (i, j)
-- the rights that site i has sent to site j. Here all rights are granted to one home site at the start.
use Rattle.std.specs.Prelude.{◌≡◌, ◌≢◌, ℕ, ◌+◌, ◌-◌, ◌^◌, ◌<◌, ◌≤◌, ◌==◌, if◌then◌else◌, List, [], length, replicate, slice_index, slice_index_or, slice_set, sum, sum_by}
use Rattle.grow_counters.specs.Counts.{counter_limit}

-- what contracts see of the matrix of one record: its home site, its seats and its rows
pub record MatrixState : Type 0 where
  pub home : ℕ
  pub seats : ℕ
  pub rows : List (List ℕ)

abbrev pub matrix_of : ℕ → ℕ → List (List ℕ) → MatrixState
matrix_of home seats rows = record { home = home; seats = seats; rows = rows }

abbrev pub site_count : MatrixState → ℕ
site_count m = length m.rows

-- what a site has at the start without having made it: all seats at home, none elsewhere
abbrev pub grant : MatrixState → ℕ → ℕ
grant m i = if i == m.home then m.seats else 0

-- the row of site i, which site i alone changes
abbrev pub row_of : MatrixState → ℕ → List ℕ
row_of m i = slice_index_or m.rows i []

-- 0 outside the matrix
abbrev pub entry : MatrixState → ℕ → ℕ → ℕ
entry m i j = slice_index (row_of m i) j

-- an entry at the start
abbrev pub start_entry : MatrixState → ℕ → ℕ → ℕ
start_entry m i j = if i == j then grant m i else 0

-- the matrix at the start: no entry is above 0 but the home site's own
abbrev pub start_matrix : ℕ → ℕ → ℕ → MatrixState
start_matrix n home seats =
    let zeros : List ℕ = replicate n 0 in
    matrix_of home seats (slice_set (replicate n zeros) home (slice_set zeros home seats))

-- all rights that site i ever got: its own increments, and what the other sites sent to it
abbrev pub gained : MatrixState → ℕ → ℕ
gained m i = sum_by (λ row. slice_index row i) m.rows

-- all rights that site i ever sent to other sites: its row without its own increments
abbrev pub given : MatrixState → ℕ → ℕ
given m i = sum (slice_set (row_of m i) i 0)

-- all rights that site i no longer has: the ones it sent, and the ones taken there (its decrements)
abbrev pub spent : MatrixState → ℕ → ℕ → ℕ
spent m i taken = given m i + taken

-- the rights of site i, the formula of Balegas et al. with U[i] = taken:
-- R[i][i] + (sum over j ≠ i of R[j][i]) - (sum over j ≠ i of R[i][j]) - U[i]
abbrev pub rights_of : MatrixState → ℕ → ℕ → ℕ
rights_of m i taken = gained m i - spent m i taken

-- the formula's value is no negative number, so that `rights_of` is exact
abbrev pub HasRights : MatrixState → ℕ → ℕ → Type 0
HasRights m i taken = spent m i taken ≤ gained m i

-- what site s may say of itself: it never has less than its grant, and no counter is past its limit
pub record IsValidRow (m : MatrixState) (s : ℕ) (row : List ℕ) : Type 0 where
  pub granted : grant m s ≤ slice_index row s
  pub own : slice_index row s ≤ grant m s + counter_limit
  pub sent : (j : ℕ) → j ≢ s → slice_index row j ≤ counter_limit

-- the greatest number of sites (this project's own)
abbrev pub most_sites : ℕ
most_sites = 16

-- what holds of every matrix; with a home site there is at least one row
pub record IsMatrix (m : MatrixState) : Type 0 where
  pub home : m.home < site_count m
  pub few_sites : site_count m ≤ most_sites
  pub few_seats : m.seats < 2 ^ 32
  pub square : (i : ℕ) → i < site_count m → length (row_of m i) ≡ site_count m
  pub valid : (i : ℕ) → i < site_count m → IsValidRow m i (row_of m i)

-- the two matrices are of one record: same home site, seats and number of sites
pub record SameShape (a b : MatrixState) : Type 0 where
  pub home : b.home ≡ a.home
  pub seats : b.seats ≡ a.seats
  pub sites : site_count b ≡ site_count a

-- the matrix with n more at entry (i, j)
abbrev pub raised : MatrixState → ℕ → ℕ → ℕ → MatrixState
raised m i j n = record m { rows = slice_set m.rows i (slice_set (row_of m i) j (entry m i j + n)) }
