-- What a site still knows after a restart (this project's own rule): the entries that name the site itself.
use Rattle.std.specs.Prelude.{ℕ, ◌==◌, ◌||◌, if◌then◌else◌, List, slice_index}
use Rattle.rights_matrix.specs.Matrix.{MatrixState, entry, start_entry}

-- entry (i, j) after a restart of a site: row and column of that site stay, each other entry starts again
abbrev pub kept_entry : MatrixState → ℕ → ℕ → ℕ → ℕ
kept_entry m site i j = if (i == site) || (j == site) then entry m i j else start_entry m i j

-- row i of them, where `start` is its own entry at the start; the row of the site itself stays whole
abbrev pub kept_counter : List ℕ → ℕ → ℕ → ℕ → ℕ → ℕ
kept_counter row i site start j =
    if (i == site) || (j == site) then slice_index row j else (if i == j then start else 0)
