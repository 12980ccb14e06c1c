-- A square of counters in one list, seen as a list of rows.
use Rattle.std.specs.Prelude.{ℕ, zero, suc, List, [], ◌∷◌, take, drop}

-- so many rows of n counters, cut one after the other from the front of the list (row-major order)
abbrev pub rows_of : ℕ → ℕ → List ℕ → List (List ℕ)
rows_of zero n cells = []
rows_of (suc count) n cells = take n cells ∷ rows_of count n (drop n cells)
