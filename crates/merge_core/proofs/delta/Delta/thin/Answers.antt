use Rattle.merge_core.specs.Delta.{DeltaState}
use Rattle.merge_core.proofs.ThinLemmas.{IsDelta-thin}
use Rattle.merge_core.proofs.delta.Delta.thin.Goals as goal

pub invariant_of-result : goal.invariant_of-result
invariant_of-result c =
    let d : DeltaState = record { from = c.self.inside.from; rows = c.self.inside.rows.items } in
    rw (c.in_ok-rows.ensures, c.as_slice.ensures.value) (IsDelta-thin d c.as_slice-2.result.now c.self.invariant)
