use Rattle.admission_core.specs.Core.{Stands}
use Rattle.log_replay.proofs.ListLemmas.{parts}
use Rattle.log_replay.proofs.EntryLemmas.{carried, follow_next, follow_stops}
use Rattle.log_replay.proofs.entries.follow.Goals as goal

pub returns-then-not-branch-clause-followed : goal.returns-then-not-branch-clause-followed
returns-then-not-branch-clause-followed c = λ a begun.
    let e = c.entry-item.result in
    follow_stops c.args.entries.now c.entries.rest.now _ c.entries.n e c.entries.core c.follow_one.new.core c.in_ok-follow_one.field-0 a
    (parts c.entries.rest.now e c.in-len1-up.len_at_least c.entry-item.is) c.if-not-branch.true c.in_ok-follow_one.ensures.same c.in_ok-follow_one.ensures.stands (c.entries.invariant.way a begun)

pub entries-preserved : goal.entries-preserved
entries-preserved c =
    let e = c.entry-item.result in
    let next = follow_next c.args.entries.now c.entries.rest.now _ c.entries.n e c.args.core.now c.entries.core c.follow_one.new.core
    (parts c.entries.rest.now e c.in-len1-up.len_at_least c.entry-item.is) c.entries.invariant.number c.entries.invariant.way
    (λ b stands. (c.in_ok-follow_one.ensures.same b stands).0 c.if-not-branch.false)
    (λ b stands. carried b e c.follow_one.new.core ((c.in_ok-follow_one.ensures.same b stands).0 c.if-not-branch.false) (c.in_ok-follow_one.ensures.stands b stands)) in
    record { number = next.0; way = next.1 }
