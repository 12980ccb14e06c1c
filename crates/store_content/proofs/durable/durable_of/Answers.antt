-- The notices' counters are merged into the cells, those announced after those finished.
use Rattle.std.proofs.Common.{map, sym, ap, subst, ◌∙◌}
use Rattle.std.specs.List.{AllByRecursion}
use Rattle.store_rows.specs.Rows.{Stored, cell_before}
use Rattle.store_rows.specs.Sorted.{IsRising}
use Rattle.store_content.specs.Content.{IsNotice, announced_cells, finished_cells, session_of, table_cells}
use Rattle.store_content.proofs.DurableLemmas.{assembled, merged_along, together}
use Rattle.store_content.proofs.durable.durable_of.Goals as goal

pub returns : goal.returns
returns c =
    λ is.
    let it = c.args.content.now in
    let cells = c.deref.ensures.value ∙ ap (λ (v : Stored). v.cells) c.content.view_is in
    let finished = c.deref-2.ensures.value ∙ ap (λ (v : Stored). v.notices) c.content.view_is in
    let announced = c.deref-3.ensures.value ∙ ap (λ (v : Stored). v.notices) c.content.view_is in
    let sessions = c.deref-8.ensures.value ∙ ap (λ (v : Stored). v.sessions) c.content.view_is in
    together it _ _ _ c.new.ensures
    (assembled it is _ _ _ _ _
    (c.in_ok-own.ensures (subst (IsRising cell_before) (sym cells) is.rows.cells_rise) ∙ ap table_cells cells)
    (c.in_ok-finished.ensures (subst (AllByRecursion IsNotice) (sym finished) is.rows.notices) ∙ ap finished_cells finished)
    (c.in_ok-announced.ensures (subst (AllByRecursion IsNotice) (sym announced) is.rows.notices) ∙ ap announced_cells announced)
    (merged_along _ _ _ _ _ c.deref-4.ensures.value c.deref-5.ensures.value c.in_ok-cells.ensures)
    (merged_along _ _ _ _ _ c.deref-6.ensures.value c.deref-7.ensures.value c.in_ok-cells-2.ensures))
    (c.in_ok-sessions.ensures ∙ ap (map session_of) sessions)
