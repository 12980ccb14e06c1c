-- Rising cells have a place where the half that may have it does.
use Rattle.std.proofs.Common.{◌/◌, length, refl, sym, ◌∙◌, get_or}
use Rattle.admission_model.specs.declared.durable.DurableCell.{DurableCell}
use Rattle.store_content.proofs.HalfLemmas.{halves, level, search_high, search_low, rest_of, middle_below}
use Rattle.store_content.proofs.cells.+search.Goals as goal

none : DurableCell
none = record { r = 0; slot = 0; value = 0 }

pub returns-then-is_before : goal.returns-then-is_before
unfolding none
returns-then-is_before t c =
    let cells = c.args.cells.now in
    search_high cells _ (length cells / 2) none c.args.wanted _ (rest_of cells (length cells / 2)) (middle_below cells _ c.is_empty.ensures c.if-is_empty.false) (sym c.is_before.ensures ∙ c.if-is_before.true) c.search.ensures

pub returns-then-is_before-2 : goal.returns-then-is_before-2
unfolding none
returns-then-is_before-2 t c =
    let cells = c.args.cells.now in
    search_low cells _ (length cells / 2) none c.args.wanted _ refl (middle_below cells _ c.is_empty.ensures c.if-is_empty.false) (sym c.is_before-2.ensures ∙ c.if-is_before-2.true) c.search-then-is_before-2.ensures

pub returns : goal.returns
unfolding none
returns t c =
    let cells = c.args.cells.now in
    λ up. sym ((halves cells (length cells / 2) none c.args.wanted (middle_below cells _ c.is_empty.ensures c.if-is_empty.false) up).found (level (get_or cells (length cells / 2) none) c.args.wanted (sym c.is_before.ensures ∙ c.if-is_before.false) (sym c.is_before-2.ensures ∙ c.if-is_before-2.false)))
