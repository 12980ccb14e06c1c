use Rattle.std.proofs.Common.{◌≡◌, ℕ, ◌<◌, length, get_or}
use Rattle.merge_core.specs.declared.cell.Cell.{Cell}
use Rattle.merge_core.specs.declared.delta.Row.{Row}
use Rattle.merge_core.specs.Book.{counter_of}
use Rattle.merge_core.specs.Rows.{counter_in, counters_of}
use Rattle.log_replay.proofs.own.own_rows.Given as goal

abbrev pub invariant-records : goal.invariant-records
invariant-records l = record {
  number : length l.rows.items ≡ l.r;
  each : (k : ℕ) → k < l.r → (none : Row) (cell : Cell) → counter_in (counters_of (get_or l.rows.items k none)) cell ≡ counter_of l.book k l.site cell;
}
