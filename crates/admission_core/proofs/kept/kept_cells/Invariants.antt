use Rattle.std.proofs.Common.{◌≡◌}
use Rattle.merge_core.specs.Layout.{shape_of}
use Rattle.merge_core.specs.Rows.{start_counter}
use Rattle.admission_model.specs.Durable.{places_from}
use Rattle.admission_core.proofs.KeptLemmas.{kept_in}
use Rattle.admission_core.proofs.kept.kept_cells.Given as goal

abbrev pub invariant-loop-r : goal.invariant-loop-r
invariant-loop-r g l =
    l.cells.items ≡ kept_in l.layout.sites l.site (start_counter (shape_of l.layout)) (g.C.Counters.counter l.counters l.layout) (places_from 0 l.r)
