-- Which rows of a book may have left their start, as a book remembers it beside its counters.
use Rattle.std.specs.Prelude.{◌≡◌, ◌≢◌, ◌⊎◌, ℕ, ◌<◌, List, length, slice_index, IsTrue}
use Rattle.std.specs.Int.{bit_at}
use Rattle.merge_core.specs.Book.{BookState, book_shape, counter_of}
use Rattle.merge_core.specs.Moved.{has_moved}

-- the row of site s for record r is marked: bit s of the record's mark is set
abbrev pub IsMarked : List ℕ → ℕ → ℕ → Type 0
IsMarked marks r s = bit_at (slice_index marks r) s ≡ 1

-- there is a mark for each record, and each row that has left its start is marked
pub record MarksMoved (b : BookState) (marks : List ℕ) : Type 0 where
  pub as_many : length marks ≡ length b.records
  pub marked : (r s : ℕ) → r < length b.records → s < b.sites → IsTrue (has_moved (book_shape b) (counter_of b) r s) → IsMarked marks r s

-- one more row is marked
pub record MarksRow (r s : ℕ) (old new : List ℕ) : Type 0 where
  pub as_many : length new ≡ length old
  pub here : IsMarked new r s
  pub others : (q t : ℕ) → IsMarked old q t → IsMarked new q t

-- one row is marked no more, and each of the others that was marked still is
pub record UnmarksRow (r s : ℕ) (old new : List ℕ) : Type 0 where
  pub as_many : length new ≡ length old
  pub here : ¬ IsMarked new r s
  pub others : (q t : ℕ) → t < 16 → (q ≢ r) ⊎ (t ≢ s) → IsMarked old q t → IsMarked new q t
