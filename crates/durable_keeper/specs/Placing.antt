-- Where a cell belongs among others that rise. For private clauses.
use Rattle.std.specs.Prelude.{◌≡◌, ℕ, ◌<◌, ◌≤◌, false, List, length, slice_index_or, IsTrue}
use Rattle.admission_core.specs.DurableCell.{DurableCell}
use Rattle.admission_core.specs.Durable.{is_before}

-- so many of the cells stand before this one, and the next does not
pub record IsPlaceOf (c : DurableCell) (ds : List DurableCell) (n : ℕ) : Type 0 where
  pub within : n ≤ length ds
  pub before : (k : ℕ) (none : DurableCell) → k < n → IsTrue (is_before (slice_index_or ds k none) c)
  pub next : (none : DurableCell) → n < length ds → is_before (slice_index_or ds n none) c ≡ false
