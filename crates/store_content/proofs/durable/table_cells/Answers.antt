-- The first counter that is not at its place is merged into those that are.
use Rattle.std.proofs.Common.{◌∙◌}
use Rattle.store_content.proofs.DurableLemmas.{merged_along}
use Rattle.store_content.proofs.TableLemmas.{misplaced_rise, placed_rise}
use Rattle.store_content.proofs.durable.table_cells.Goals as goal

pub returns : goal.returns
returns c =
    λ up.
    merged_along _ _ _ _ _ (c.deref.ensures.value ∙ c.in_ok-misplaced.ensures) (c.deref-2.ensures.value ∙ c.in_ok-placed.ensures) c.in_ok-all.ensures
    (misplaced_rise c.args.cells.now) (placed_rise c.args.cells.now up)
