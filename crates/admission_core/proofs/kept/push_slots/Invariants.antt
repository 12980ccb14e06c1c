use Rattle.std.proofs.Common.{◌≡◌, ◌-◌, ◌++◌}
use Rattle.merge_core.specs.Layout.{shape_of}
use Rattle.merge_core.specs.Rows.{start_counter}
use Rattle.admission_model.specs.Durable.{slots_from}
use Rattle.admission_core.proofs.KeptLemmas.{kept_in}
use Rattle.admission_core.proofs.kept.push_slots.Given as goal

abbrev pub invariant-loop-slot : goal.invariant-loop-slot
invariant-loop-slot g l =
    l.cells.items ≡ l.initial.cells.items ++ kept_in l.layout.sites l.site (start_counter (shape_of l.layout)) (g.C.Counters.counter l.counters l.layout) (slots_from l.r l.first (l.slot - l.first))
