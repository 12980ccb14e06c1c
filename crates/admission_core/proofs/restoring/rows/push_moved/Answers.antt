use Rattle.merge_core.specs.Layout.{shape_of}
use Rattle.admission_core.specs.Restored.{counters_in}
use Rattle.admission_core.proofs.RestoringRows.{pushed}
use Rattle.admission_core.proofs.restoring.rows.push_moved.Goals as goal

pub loop-s-preserved : goal.loop-s-preserved
loop-s-preserved c =
    pushed (shape_of c.args.layout.now) (counters_in c.args.layout.now c.args.site c.args.table.now) c.args.r c.loop-s.s c.args.rows.now.items c.loop-s.rows.items c.push_if_moved.new.rows.items
    c.loop-s.invariant c.in_ok-push_if_moved.ensures
