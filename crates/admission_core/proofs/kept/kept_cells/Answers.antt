use Rattle.merge_core.specs.Layout.{shape_of}
use Rattle.merge_core.specs.Rows.{start_counter}
use Rattle.admission_core.proofs.KeptLemmas.{records_turn}
use Rattle.admission_core.proofs.kept.kept_cells.Goals as goal

pub loop-r-preserved : goal.loop-r-preserved
loop-r-preserved g c =
    let layout = c.args.layout.now in
    records_turn layout.sites c.args.site (start_counter (shape_of layout)) (g.C.Counters.counter c.args.counters.now layout) c.loop-r.r
    c.loop-r.cells.items c.push_kept.new.cells.items c.loop-r.invariant (c.in_ok-push_kept.ensures {u = tt})
