use Rattle.std.proofs.Common.{◌≡◌, ◌<◌, length, ◌∙◌, arith}
use Rattle.std.proofs.lemmas.List.{length-set}
use Rattle.writer_notices.specs.Notices.{NoticeState, announced_at}
use Rattle.merge_core.specs.Book.{BookState}
use Rattle.merge_core.proofs.BookLemmas.{IsBook-with, Raises-written, IsRecord-read}
use Rattle.merge_core.proofs.OperationLemmas.{RaisesIn-announce, either_way, on_success}
use Rattle.merge_core.proofs.MarkLemmas.{SameElsewhere, same_raised, same_unwritten, whichever, marks_written}
use Rattle.merge_core.proofs.book.Book.announce.Goals as goal

pub invariant_of-self : goal.invariant_of-self
invariant_of-self c =
    let b : BookState = record { sites = c.self.inside.sites; records = c.self.inside.records.items } in
    let it = c.index_mut-it.result.now in
    let below : c.from.result < length b.records = rw c.from.ensures (rw (← c.self.view_is) at c.requires.record) in
    let site : c.args.i < b.sites = rw (← c.self.view_is) at c.requires.site in
    let is = IsRecord-read b c.from.result it below c.index_mut-it.ensures.value c.self.invariant.0 in
    let inside : c.args.i < length it.notices.announced = omega (arith, is.notice_sites) in
    let same : length c.announce.new.self.announced ≡ length it.notices.announced =
    either_way (λ (n : NoticeState). length n.announced) c.announce.result c.announce.new.self (announced_at it.notices c.args.i) it.notices c.announce.ensures.notices (length-set _ _ _) in
    let marked = rw (← c.from.ensures) at c.mark.ensures in
    let elsewhere = whichever (λ (n : NoticeState). SameElsewhere it (record { seats = it.seats; notices = n }) c.args.i) c.announce.result c.announce.new.self (announced_at it.notices c.args.i) it.notices c.announce.ensures.notices
    (same_raised it _ c.args.i _ 1 (RaisesIn-announce it c.args.i inside)) (same_unwritten it c.args.i) in (
      IsBook-with b c.from.result _ below (record { seats = is.seats; notices = c.announce.ensures.valid; seat_sites = is.seat_sites; notice_sites = same ∙ is.notice_sites }) c.self.invariant.0,
      marks_written b c.from.result c.args.i it _ c.self.inside.marks.items _ below c.index_mut-it.ensures.value elsewhere c.self.invariant.1 marked,
    )

pub returns-clause-book : goal.returns-clause-book
returns-clause-book c = (invariant_of-self c).0

pub returns-clause-counters : goal.returns-clause-counters
returns-clause-counters c =
    let b : BookState = record { sites = c.self.inside.sites; records = c.self.inside.records.items } in
    let it = c.index_mut-it.result.now in
    let below : c.from.result < length b.records = rw c.from.ensures (rw (← c.self.view_is) at c.requires.record) in
    let site : c.args.i < b.sites = rw (← c.self.view_is) at c.requires.site in
    let is = IsRecord-read b c.from.result it below c.index_mut-it.ensures.value c.self.invariant.0 in
    let inside : c.args.i < length it.notices.announced = omega (arith, is.notice_sites) in
    on_success c.announce.result c.announce.new.self (announced_at it.notices c.args.i) it.notices _ c.announce.ensures.notices
    (λ done. rw (← c.self.view_is, ← c.from.ensures, done)
    (Raises-written b c.from.result c.args.i _ 1 it _ below c.index_mut-it.ensures.value (RaisesIn-announce it c.args.i inside)))
