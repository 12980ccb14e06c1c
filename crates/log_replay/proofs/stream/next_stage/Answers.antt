use Rattle.std.proofs.Common.{rules, ◌≡◌, ◌∷◌, [], List, Option, Bool, Some, None, cond, ap, subst, sym, ◌∙◌}
use Rattle.admission_core.specs.Core.{Core}
use Rattle.desk_log.specs.declared.entry.Entry.{Entry}
use Rattle.log_replay.specs.Replay.{IsJoint, tried_at}
use Rattle.log_replay.proofs.StreamLemmas.{in_records, in_left, next_begun, next_unfit, next_settled}
use Rattle.log_replay.proofs.stream.next_stage.Goals as goal

pub begun_core-requires : goal.begun_core-requires
begun_core-requires c =
    let it = c.requires in
    in_records c.args.layout.now it.0 it.1 [] (record c.args.run.now { entries = it.2 } ∷ it.3) c.args.core c.args.left.items it.4 it.5

pub returns-in-Some-clause-stage : goal.returns-in-Some-clause-stage
returns-in-Some-clause-stage c = λ i runs es later at r.
    let core = c.args.core in
    let left = c.args.left.items in
    let run = c.args.run.now in
    let same : c.as_slice.result.now ≡ left = search rules in
    let found = c.in_ok-next.ensures r.reached r.stands in
    let joint = subst (λ (o : Option (Core × Bool)). IsJoint c.args.layout.now core.site r.reached (tried_at r.reached left) run o) c.in-Some.is
    (subst (λ (xs : List Entry). IsJoint c.args.layout.now core.site r.reached (tried_at r.reached xs) run c.in_ok-next.field-0) same found) in
    in_left c.args.layout.now i runs es later c.in-Some.next _ at (search rules)
    (next_begun c.args.layout.now i runs run es later core left at r c.in-Some.next c.in-Some.kept joint)

pub returns-in-Some-clause-kept : goal.returns-in-Some-clause-kept
returns-in-Some-clause-kept c = λ i runs es later at d doubt r going.
    let core = c.args.core in
    let left = c.args.left.items in
    let run = c.args.run.now in
    let same : c.as_slice.result.now ≡ left = search rules in
    let found = c.in_ok-next.ensures r.reached r.stands in
    let joint = subst (λ (o : Option (Core × Bool)). IsJoint c.args.layout.now core.site r.reached (tried_at r.reached left) run o) c.in-Some.is
    (subst (λ (xs : List Entry). IsJoint c.args.layout.now core.site r.reached (tried_at r.reached xs) run c.in_ok-next.field-0) same found) in
    next_settled c.args.layout.now i runs run es later core left at r d c.in-Some.next c.in-Some.kept _ doubt joint
    (c.kept_entries.ensures ∙ ap (λ (xs : List Entry). cond c.in-Some.kept xs []) doubt)

pub returns-in-None-clause-stage : goal.returns-in-None-clause-stage
returns-in-None-clause-stage c = λ i runs es later at r.
    let core = c.args.core in
    let left = c.args.left.items in
    let run = c.args.run.now in
    let same : c.as_slice.result.now ≡ left = search rules in
    let found = c.in_ok-next.ensures r.reached r.stands in
    let joint = subst (λ (o : Option (Core × Bool)). IsJoint c.args.layout.now core.site r.reached (tried_at r.reached left) run o) c.in-None.is
    (subst (λ (xs : List Entry). IsJoint c.args.layout.now core.site r.reached (tried_at r.reached xs) run c.in_ok-next.field-0) same found) in
    next_unfit c.args.layout.now i runs run es later core left at r joint
