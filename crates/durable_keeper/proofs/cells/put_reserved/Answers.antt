use Rattle.std.proofs.Common.{◌≡◌, ◌<◌, false, length, get_or, ◌∙◌, sym, ap, subst, List, arith}
use Rattle.std.proofs.lemmas.List.{get_or_default}
use Rattle.admission_core.specs.DurableCell.{DurableCell}
use Rattle.admission_core.specs.Durable.{is_same_place}
use Rattle.durable_keeper.specs.Placing.{IsPlaceOf}
use Rattle.durable_keeper.proofs.PlacingLemmas.{put_same, put_new}
use Rattle.durable_keeper.proofs.cells.put_reserved.Goals as goal
use Rattle.durable_keeper.proofs.cells.put_reserved.Goals.{else-at-len-via-then-at-len+else-is_same_place, else-at-len-via-else-at-len}

pub returns-then-is_same_place-clause-cells : goal.returns-then-is_same_place-clause-cells
returns-then-is_same_place-clause-cells c =
    let cell = c.args.cell in
    let items = c.args.kept.now.items in
    let at = c.count_before-at.result in
    let place : IsPlaceOf cell items at = subst (λ (ds : List DurableCell). IsPlaceOf cell ds at) c.as_slice.ensures.value c.count_before-at.ensures in
    let below : at < length items = subst (λ (ds : List DurableCell). at < length ds) c.as_slice.ensures.value (omega (arith, c.as_slice.ensures.len, c.len.ensures, c.if-at-len.true)) in
    let there : get_or items at cell ≡ c.index.result.now = get_or_default items at cell c.index.result.now below ∙ sym c.index.ensures in
    sym (put_same cell items at place below (ap (is_same_place cell) there ∙ (sym c.is_same_place.ensures ∙ c.if-is_same_place.true)))

pub returns-clause-cells : goal.returns-clause-cells
returns-clause-cells c =
    let cell = c.args.cell in
    let items = c.args.kept.now.items in
    let at = c.count_before-at.result in
    let place : IsPlaceOf cell items at = subst (λ (ds : List DurableCell). IsPlaceOf cell ds at) c.as_slice.ensures.value c.count_before-at.ensures in
    let apart : at < length items → is_same_place cell (get_or items at cell) ≡ false = λ below. (elim c.else-at-len.branch [
      | else-at-len-via-then-at-len+else-is_same_place w ↦
          let there : get_or items at cell ≡ w.index.result.now = get_or_default items at cell w.index.result.now below ∙ sym w.index.ensures in
          ap (is_same_place cell) there ∙ (sym w.is_same_place.ensures ∙ w.if-is_same_place.false)
      | else-at-len-via-else-at-len w ↦
          let past : length c.as_slice.result.now ≡ length items = ap (λ (ds : List DurableCell). length ds) c.as_slice.ensures.value in
          absurd (omega (arith, below, past, c.as_slice.ensures.len, c.len.ensures, w.if-at-len.false))
    ]) in
    let ok = c.insert.ensures.succeeds c.requires.room in
    (rw ok at c.insert.ensures.items) ∙ sym (put_new cell items at place apart)
