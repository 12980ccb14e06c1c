use Rattle.std.proofs.Common.{◌≡◌, ℕ, ◌<◌, ◌≤◌, [], length, slice_index, slice_index_or}
use Rattle.rights_matrix.specs.Matrix.{matrix_of}
use Rattle.rights_matrix.specs.Kept.{kept_entry}
use Rattle.rights_matrix.proofs.rights.keep_rows.Given as goal

abbrev pub invariant-loop-i : goal.invariant-loop-i
invariant-loop-i l = record {
  size : length l.cells ≡ length l.initial.cells;
  widths : (k : ℕ) → length (slice_index_or l.cells k []) ≡ length (slice_index_or l.initial.cells k []);
  done : (k : ℕ) → k < l.i → (j : ℕ) → slice_index (slice_index_or l.cells k []) j ≡ kept_entry (matrix_of l.home l.seats l.initial.cells) l.site k j;
  rest : (k : ℕ) → l.i ≤ k → slice_index_or l.cells k [] ≡ slice_index_or l.initial.cells k [];
}
