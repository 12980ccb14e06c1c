use Rattle.std.proofs.Common.{◌≡◌, List, length, sym, ap, ◌∙◌, subst, arith}
use Rattle.merge_core.specs.declared.delta.Row.{Row}
use Rattle.merge_core.specs.declared.layout.RecordSpec.{RecordSpec}
use Rattle.merge_core.specs.Layout.{shape_of}
use Rattle.merge_core.specs.Delta.{IsDelta}
use Rattle.merge_core.specs.Moved.{moved_below, all_moved}
use Rattle.admission_model.proofs.RowLemmas.{records_number}
use Rattle.admission_core.specs.Restored.{counters_in}
use Rattle.admission_core.proofs.RestoringRows.{IsDelta-table}
use Rattle.admission_core.proofs.restoring.rows.delta_of.Goals as goal

pub unreachable-requires : goal.unreachable-requires
unreachable-requires c =
    let layout = c.args.layout.now in
    let number : c.loop-r.r ≡ length (shape_of layout).records =
    omega (arith, records_number layout, ap (λ (rs : List RecordSpec). length rs) c.records.ensures.records) in
    let rows : c.loop-r.rows.items ≡ all_moved (shape_of layout) (counters_in layout c.args.site c.args.table.now) =
    c.loop-r.invariant ∙ ap (moved_below (shape_of layout) (counters_in layout c.args.site c.args.table.now)) number in
    c.in-Err.ensures.answer
    (subst (λ (rs : List Row). IsDelta (record { from = c.args.site; rows = rs })) (sym rows)
    (IsDelta-table layout c.args.site c.args.table.now c.records.ensures.layout c.requires.site c.requires.fits))
