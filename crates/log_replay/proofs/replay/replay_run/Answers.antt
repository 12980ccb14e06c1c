use Rattle.std.proofs.Common.{ap, ◌∙◌}
use Rattle.std.proofs.lemmas.Result.{IfOk-weaker}
use Rattle.merge_core.specs.Layout.{LayoutState}
use Rattle.admission_core.specs.Core.{Core}
use Rattle.log_replay.specs.Legal.{started}
use Rattle.log_replay.proofs.RunCode.{followed_layout, run_bad, run_stands, run_goes, run_mark}
use Rattle.log_replay.proofs.replay.replay_run.Goals as goal

pub returns-then-not-branch-clause-end : goal.returns-then-not-branch-clause-end
returns-then-not-branch-clause-end c = λ a stands.
    run_bad (started a c.args.run.now) c.as_slice-entries.result.now c.args.run.now.entries c.in_ok-n.n c.follow_past.new.core c.in_ok-may_end.field-0
    (c.in_ok-n.ensures.followed (started a c.args.run.now) stands) c.as_slice-entries.ensures c.in_ok-may_end.ensures.answer c.if-not-branch.true

pub next_core-requires : goal.next_core-requires
next_core-requires c =
    let a = c.requires.there.0 in
    let es = c.as_slice-entries.result.now in
    let followed = c.in_ok-n.ensures.followed a c.requires.there.1 in
    let stands = run_stands a es c.in_ok-n.n c.follow_past.new.core c.in_ok-may_end.field-0 followed c.in_ok-may_end.ensures.answer c.if-not-branch.false in
    ap (λ (x : Core). x.layout.records) c.in_ok-may_end.ensures.content
    ∙ (ap (λ (l : LayoutState). l.records) (followed_layout a es c.in_ok-n.n c.args.core c.follow_past.new.core c.requires.there.1 followed stands) ∙ c.requires.records)

pub returns-clause-end : goal.returns-clause-end
returns-clause-end c =
    IfOk-weaker c.next_core.result _ _
    (λ end is a stands.
    run_goes c.args.layout.now a c.args.run.now c.args.later.now c.as_slice-entries.result.now c.in_ok-n.n c.args.core c.follow_past.new.core c.may_end.new.core c.in_ok-may_end.field-0 end
    stands (c.in_ok-n.ensures.followed (started a c.args.run.now) stands) c.as_slice-entries.ensures c.in_ok-may_end.ensures.answer c.if-not-branch.false c.in_ok-may_end.ensures.content is)
    c.next_core.ensures

pub returns-clause-mark : goal.returns-clause-mark
returns-clause-mark c =
    IfOk-weaker c.next_core.result _ _
    (λ end is a target stands good.
    run_mark c.args.layout.now target a c.args.run.now c.args.later.now c.args.mark.now c.follow_past.new.mark c.in_ok-n.n c.as_slice-entries.result.now c.args.core c.follow_past.new.core c.in_ok-may_end.field-0
    stands c.requires.records (c.in_ok-n.ensures.followed (started a c.args.run.now) stands) c.as_slice-entries.ensures c.in_ok-may_end.ensures.answer c.if-not-branch.false
    c.in_ok-n.ensures.taken c.in_ok-n.ensures.past c.in_ok-n.ensures.here)
    c.next_core.ensures
