-- The rows so far are those of the cells so far.
use Rattle.std.proofs.Common.{◌≡◌, take, map, filter}
use Rattle.admission_model.specs.Durable.{AreRising}
use Rattle.store_rows.specs.Rows.{Stored}
use Rattle.store_content.specs.Known.{Knows}
use Rattle.store_content.specs.Plan.{begins_row, row_after, site_at}
use Rattle.store_content.proofs.index.Index.notices_of.Given as goal

abbrev pub invariant-loop-cell : goal.invariant-loop-cell
invariant-loop-cell l = (it : Stored) → Knows l.self it → AreRising l.cells
    → l.rows.items ≡ map (λ c. row_after l.cells it c.r (site_at c.slot)) (filter (begins_row l.cells) (take l.cell-index l.cells))
