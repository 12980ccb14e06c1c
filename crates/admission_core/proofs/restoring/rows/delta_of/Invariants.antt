use Rattle.std.proofs.Common.{◌≡◌}
use Rattle.merge_core.specs.Layout.{shape_of}
use Rattle.merge_core.specs.Moved.{moved_below}
use Rattle.admission_core.specs.Restored.{counters_in}
use Rattle.admission_core.proofs.restoring.rows.delta_of.Given as goal

abbrev pub invariant-loop-r : goal.invariant-loop-r
invariant-loop-r l = l.rows.items ≡ moved_below (shape_of l.layout) (counters_in l.layout l.site l.table) l.r
