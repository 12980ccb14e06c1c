use Rattle.std.proofs.Common.{◌≡◌, ◌≤◌, length, ap, sym, ◌∙◌, arith}
use Rattle.std.proofs.lemmas.Grind.{common_steps}
use Rattle.grow_counters.proofs.CountsLemmas.{rise_count_le}
use Rattle.writer_notices.specs.Notices.{NoticeState}
use Rattle.writer_notices.proofs.NoticeLemmas.{IsNotices-joined}
use Rattle.writer_notices.proofs.notices.Notices.join.Goals as goal

pub overflow_add-result : goal.overflow_add-result
overflow_add-result c =
    let few = rise_count_le c.self.inside.announced c.join-announced.new.self in
    let few_finished = rise_count_le c.self.inside.finished c.join-finished.new.self in
    omega (arith, c.join-announced.ensures.risen, c.join-finished.ensures.risen)

pub invariant_of-self : goal.invariant_of-self
invariant_of-self c =
    let same_sites : length c.other.inside.announced ≡ length c.self.inside.announced =
    ap (λ (n : NoticeState). length n.announced) c.other.view_is ∙ c.requires ∙ sym (ap (λ (n : NoticeState). length n.announced) c.self.view_is) in
    rw (c.join-announced.ensures.counters, c.join-finished.ensures.counters)
    (IsNotices-joined _ _ same_sites c.self.invariant c.other.invariant)

pub returns-clause-valid : goal.returns-clause-valid
returns-clause-valid c = invariant_of-self c

pub returns-clause-notices : goal.returns-clause-notices
returns-clause-notices c = grind (arith, common_steps)
