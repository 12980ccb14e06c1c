use Rattle.std.proofs.Common.{◌-◌, length}
use Rattle.merge_core.specs.Book.{counter_of}
use Rattle.merge_core.specs.Layout.{shape_of}
use Rattle.admission_core.proofs.GroupLemmas.{AreDone}
use Rattle.admission_core.proofs.site_core.SiteCore.risen_cells.Given as goal

abbrev pub invariant-loop-done : goal.invariant-loop-done
invariant-loop-done l =
    AreDone (length l.self.layout.records) (shape_of l.self.layout) l.self.site (counter_of l.self.book) l.rows l.done
    l.cells.items

abbrev pub decreases-loop-done : goal.decreases-loop-done
decreases-loop-done l = length l.rows - l.done
