use Rattle.std.proofs.Common.{◌≡◌, ◌++◌}
use Rattle.merge_core.specs.Layout.{shape_of}
use Rattle.merge_core.specs.Moved.{moved_rows}
use Rattle.admission_core.specs.Restored.{counters_in}
use Rattle.admission_core.proofs.restoring.rows.push_moved.Given as goal

abbrev pub invariant-loop-s : goal.invariant-loop-s
invariant-loop-s l =
    l.rows.items ≡ l.initial.rows.items ++ moved_rows (shape_of l.layout) (counters_in l.layout l.site l.table) l.r l.s
