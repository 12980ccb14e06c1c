use Rattle.std.proofs.Common.{◌≡◌, ℕ, ◌-◌, ◌*◌, ◌^◌, ◌<◌, length, get_or, drop, None, unwrap_or}
use Rattle.admission_core.specs.Restored.{TellsCells}
use Rattle.admission_core.proofs.restoring.table.table_of.Given as goal

abbrev pub invariant-loop-k : goal.invariant-loop-k
invariant-loop-k l = record {
  size : length l.table.items ≡ length l.layout.records * 416;
  tells : TellsCells (drop (length l.cells - l.k) l.cells) l.table.items;
  fits : (k : ℕ) → unwrap_or (get_or l.table.items k None) 0 < 2 ^ 64;
}
