use Rattle.std.proofs.Common.{inl, inr}
use Rattle.live_databases.proofs.MoveLemmas.{matched}
use Rattle.live_databases.proofs.regrouping.regroup_found.Goals as goal

pub returns-in-Err : goal.returns-in-Err
returns-in-Err g c = inl c.in-Err.ensures.unopened

pub returns : goal.returns
returns g c =
    matched _ _ _ _ c.regroup_over-told.result.0
    (λ text moved. record { c = c.in-Ok.opened.0; after = c.regroup_over-told.result.1; found = c.in-Ok.ensures.opened; moved = moved })
    (λ ended unmoved. inr (record { c = c.in-Ok.opened.0; after = c.regroup_over-told.result.1; found = c.in-Ok.ensures.opened; unmoved = unmoved }))
    c.regroup_over-told.ensures
