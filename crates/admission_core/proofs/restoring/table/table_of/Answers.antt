use Rattle.std.proofs.Common.{◌<◌, ◌-◌, length, get_or, arith}
use Rattle.std.proofs.lemmas.List.{length-set}
use Rattle.admission_model.specs.declared.durable.DurableCell.{DurableCell}
use Rattle.admission_core.specs.Restored.{IsListed}
use Rattle.admission_core.proofs.RestoringLists.{slot_low, tells_read, fits_step}
use Rattle.admission_core.proofs.restoring.table.table_of.Goals as goal

pub loop-k-preserved : goal.loop-k-preserved
loop-k-preserved c =
    let d : DurableCell = record { r = 0; slot = 0; value = 0 } in
    let cells = c.args.cells.now in
    let e = get_or cells (length cells - 1 - c.loop-k.k) d in
    let listed : IsListed c.args.layout.now c.args.site e = c.requires (length cells - 1 - c.loop-k.k) d (omega (arith, c.loop-k-test.true)) in
    let low : e.slot < 416 = slot_low c.args.layout.now.sites c.args.site e.slot c.records.ensures.layout.few_sites listed.slot_there in
    record {
      size = simp length-set c.loop-k.invariant.size;
      tells = tells_read cells c.loop-k.table.items (length c.args.layout.now.records) c.loop-k.k d c.from.result c.from-in-loop-k.result c.value_of-value.result c.loop-k-test.true
          c.from.ensures c.from-in-loop-k.ensures c.value_of-value.ensures c.loop-k.invariant.size listed.record_there low c.loop-k.invariant.tells;
      fits = fits_step c.loop-k.table.items _ c.value_of-value.result (omega (arith, c.value_of-value.type_inv)) c.loop-k.invariant.fits;
    }
