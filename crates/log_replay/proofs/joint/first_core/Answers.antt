use Rattle.std.proofs.Common.{◌≡◌, ℕ, Bool, Option, Some, None, subst}
use Rattle.merge_core.specs.Layout.{at_sites}
use Rattle.admission_model.specs.Account.{Account, begin, start_origin}
use Rattle.admission_core.specs.Core.{Core, Stands}
use Rattle.log_replay.specs.Replay.{FitsSites, IsJoint}
use Rattle.log_replay.proofs.ListLemmas.{parts}
use Rattle.log_replay.proofs.RunCode.{first_some, first_none}
use Rattle.log_replay.proofs.joint.first_core.Goals as goal

pub returns-in-Some-2 : goal.returns-in-Some-2
returns-in-Some-2 c =
    let run = c.run-item.result in
    let a : Account = begin (start_origin c.in-Some.first c.args.site) in
    let stands : Stands a c.in_ok-start.start = c.in_ok-start.ensures in
    let told : FitsSites c.args.layout.now c.args.site run.sites × (c.in-Some.first ≡ at_sites run.sites c.args.layout.now) = rw c.in-Some.is at c.in_ok-first.ensures in
    let joint : IsJoint c.args.layout.now c.in_ok-start.start.site a a run (Some (c.in-Some-2.core, c.in-Some-2.field-0-1)) =
    subst (λ (o : Option (Core × Bool)). IsJoint c.args.layout.now c.in_ok-start.start.site a a run o) c.in-Some-2.is (c.in_ok-core-2.ensures a stands) in
    first_some c.args.layout.now c.args.site run _ c.args.runs.now c.in-Some.first c.in-Some-2.core c.in-Some-2.field-0-1
    (parts c.args.runs.now run c.in-len1-up.len_at_least c.run-item.is) told.1
    (subst (λ (i : ℕ). IsJoint c.args.layout.now i a a run (Some (c.in-Some-2.core, c.in-Some-2.field-0-1))) stands.shows.site joint)

pub returns-in-None : goal.returns-in-None
returns-in-None c =
    let run = c.run-item.result in
    let a : Account = begin (start_origin c.in-Some.first c.args.site) in
    let stands : Stands a c.in_ok-start.start = c.in_ok-start.ensures in
    let told : FitsSites c.args.layout.now c.args.site run.sites × (c.in-Some.first ≡ at_sites run.sites c.args.layout.now) = rw c.in-Some.is at c.in_ok-first.ensures in
    let joint : IsJoint c.args.layout.now c.in_ok-start.start.site a a run None =
    subst (λ (o : Option (Core × Bool)). IsJoint c.args.layout.now c.in_ok-start.start.site a a run o) c.in-None.is (c.in_ok-core-2.ensures a stands) in
    first_none c.args.layout.now c.args.site run _ c.args.runs.now c.in-Some.first
    (parts c.args.runs.now run c.in-len1-up.len_at_least c.run-item.is) told.1
    (subst (λ (i : ℕ). IsJoint c.args.layout.now i a a run None) stands.shows.site joint)
