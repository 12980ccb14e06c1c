use Rattle.std.proofs.Common.{◌≡◌, ℕ, ◌-◌, ◌<◌, ◌≤◌, false, length, slice_index_or, IsTrue}
use Rattle.admission_core.specs.DurableCell.{DurableCell}
use Rattle.admission_core.specs.Durable.{is_before}
use Rattle.durable_keeper.proofs.cells.count_before.Given as goal

abbrev pub invariant-cells : goal.invariant-cells
invariant-cells l = record {
  ordered : l.low ≤ l.high;
  within : l.high ≤ length l.kept;
  before : (k : ℕ) (none : DurableCell) → k < l.low → IsTrue (is_before (slice_index_or l.kept k none) l.cell);
  next : (none : DurableCell) → l.high < length l.kept → is_before (slice_index_or l.kept l.high none) l.cell ≡ false;
}

abbrev pub decreases-cells : goal.decreases-cells
decreases-cells l = l.high - l.low
