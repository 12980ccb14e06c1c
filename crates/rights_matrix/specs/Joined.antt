-- The join of two copies of a rights matrix: counter by counter the greater one, the least upper bound of
-- two states that only grow (Shapiro et al., 2011).
use Rattle.std.specs.Prelude.{ℕ, ◌+◌, List, [], ◌∷◌, slice_set}
use Rattle.grow_counters.specs.Counts.{maxima, rise_count}
use Rattle.rights_matrix.specs.Matrix.{MatrixState, row_of}

-- the maxima, row by row
abbrev pub joined_rows : List (List ℕ) → List (List ℕ) → List (List ℕ)
joined_rows xs [] = xs
joined_rows [] (y ∷ ys) = []
joined_rows (x ∷ xs) (y ∷ ys) = maxima x y ∷ joined_rows xs ys

-- how many counters of the new rows are above those of the old ones
abbrev pub rise_counts : List (List ℕ) → List (List ℕ) → ℕ
rise_counts [] new = 0
rise_counts (x ∷ xs) [] = 0
rise_counts (x ∷ xs) (y ∷ ys) = rise_count x y + rise_counts xs ys

-- the matrix joined with another copy
abbrev pub joined : MatrixState → MatrixState → MatrixState
joined a b = record a { rows = joined_rows a.rows b.rows }

-- the matrix joined with what was heard of one row
abbrev pub joined_at : MatrixState → ℕ → List ℕ → MatrixState
joined_at m s row = record m { rows = slice_set m.rows s (maxima (row_of m s) row) }
