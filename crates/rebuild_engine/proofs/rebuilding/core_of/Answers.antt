use Rattle.std.proofs.Common.{List, Ok, Err, sym, subst}
use Rattle.merge_core.specs.Delta.{DeltaState}
use Rattle.site_rebuild.specs.Rebuilt.{IsRebuilt}
use Rattle.rebuild_engine.specs.declared.rebuilding.RebuildStop.{RebuildStop}
use Rattle.rebuild_engine.specs.Parts.{IsUnbuiltIn}
use Rattle.rebuild_engine.proofs.PartLemmas.{unbuilt_by}
use Rattle.rebuild_engine.proofs.rebuilding.core_of.Goals as goal

pub returns-in-Ok-rebuilt_core-clause-answer : goal.returns-in-Ok-rebuilt_core-clause-answer
returns-in-Ok-rebuilt_core-clause-answer c = record {
  read = c.in-Ok.ensures;
  rebuilt = subst (λ (ds : List DeltaState). IsRebuilt c.args.layout c.args.lost.now c.args.site ds (Ok c.in-Ok-rebuilt_core.core)) c.deref.ensures.value c.in-Ok-rebuilt_core.ensures;
}

pub returns-in-Err-clause-answer : goal.returns-in-Err-clause-answer
returns-in-Err-clause-answer c =
    let refused = subst (λ (ds : List DeltaState). IsRebuilt c.args.layout c.args.lost.now c.args.site ds (Err c.in-Err.error)) c.deref.ensures.value c.in-Err.ensures in
    subst (λ (stop : RebuildStop). IsUnbuiltIn c.args.layout c.args.site c.args.lost.now c.args.name.now c.args.bytes.now stop) (sym c.stop_of.ensures)
    (unbuilt_by c.args.layout c.args.site c.args.lost.now c.args.name.now c.args.bytes.now c.in-Ok.deltas.items c.in-Ok.ensures c.in-Err.error refused)
