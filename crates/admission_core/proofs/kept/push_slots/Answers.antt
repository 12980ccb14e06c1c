use Rattle.std.proofs.Common.{arith}
use Rattle.merge_core.specs.Layout.{shape_of}
use Rattle.merge_core.specs.Rows.{start_counter}
use Rattle.admission_core.proofs.KeptLemmas.{slots_turn}
use Rattle.admission_core.proofs.kept.push_slots.Goals as goal

pub loop-slot-preserved : goal.loop-slot-preserved
loop-slot-preserved g c =
    let layout = c.args.layout.now in
    slots_turn layout.sites c.args.site (start_counter (shape_of layout)) (g.C.Counters.counter c.args.counters.now layout) c.args.r
    c.args.first c.loop-slot.slot c.args.cells.now.items c.loop-slot.cells.items c.push_slot.new.cells.items (omega arith)
    c.loop-slot.invariant (c.in_ok-push_slot.ensures {u = tt})
