use Rattle.std.proofs.Common.{◌≡◌, ◌≤◌, length, take}
use Rattle.merge_core.specs.Thin.{thin_rows}
use Rattle.merge_core.proofs.ThinLemmas.{ArePast}
use Rattle.merge_core.proofs.delta.thin.thin_rows.Given as goal

abbrev pub invariant-loop-row : goal.invariant-loop-row
invariant-loop-row l = record {
  thin : l.thin.items ≡ thin_rows (take l.row-index l.rows) l.earlier;
  within : l.next ≤ length l.earlier;
  past : ArePast l.earlier l.next l.rows l.row-index;
}
