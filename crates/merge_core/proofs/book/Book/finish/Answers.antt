use Rattle.std.proofs.Common.{◌<◌, length, sym, ap, ◌∙◌, subst}
use Rattle.writer_notices.specs.Notices.{NoticeState, IsOpen}
use Rattle.merge_core.specs.declared.record.RecordState.{RecordState}
use Rattle.merge_core.specs.Book.{BookState}
use Rattle.merge_core.proofs.BookLemmas.{IsBook-with, Raises-written, IsRecord-read, read_record}
use Rattle.merge_core.proofs.OperationLemmas.{RaisesIn-finish, open_inside}
use Rattle.merge_core.proofs.MarkLemmas.{SameElsewhere, same_raised, marks_written}
use Rattle.merge_core.proofs.book.Book.finish.Goals as goal

pub invariant_of-self : goal.invariant_of-self
invariant_of-self c =
    let b : BookState = record { sites = c.self.inside.sites; records = c.self.inside.records.items } in
    let it = c.index_mut-it.result.now in
    let below : c.from.result < length b.records = rw c.from.ensures (rw (← c.self.view_is) at c.requires.record) in
    let is = IsRecord-read b c.from.result it below c.index_mut-it.ensures.value c.self.invariant.0 in
    let opened : IsOpen it.notices c.args.i =
    subst (λ (x : RecordState). IsOpen x.notices c.args.i) (sym (read_record b c.from.result it below c.index_mut-it.ensures.value)) (rw (← c.self.view_is, ← c.from.ensures) at c.requires.open) in
    let inside = open_inside it.notices c.args.i is.notices opened in
    let marked = rw (← c.from.ensures) at c.mark.ensures in
    let elsewhere = subst (λ (n : NoticeState). SameElsewhere it (record { seats = it.seats; notices = n }) c.args.i) (sym c.finish.ensures.notices)
    (same_raised it _ c.args.i _ 1 (RaisesIn-finish it c.args.i inside)) in (
      IsBook-with b c.from.result _ below (record { seats = is.seats; notices = c.finish.ensures.valid; seat_sites = is.seat_sites; notice_sites = ap (λ (n : NoticeState). length n.announced) c.finish.ensures.notices ∙ is.notice_sites }) c.self.invariant.0,
      marks_written b c.from.result c.args.i it _ c.self.inside.marks.items _ below c.index_mut-it.ensures.value elsewhere c.self.invariant.1 marked,
    )

pub returns-clause-book : goal.returns-clause-book
returns-clause-book c = (invariant_of-self c).0

pub returns-clause-counters : goal.returns-clause-counters
returns-clause-counters c =
    let b : BookState = record { sites = c.self.inside.sites; records = c.self.inside.records.items } in
    let it = c.index_mut-it.result.now in
    let below : c.from.result < length b.records = rw c.from.ensures (rw (← c.self.view_is) at c.requires.record) in
    let is = IsRecord-read b c.from.result it below c.index_mut-it.ensures.value c.self.invariant.0 in
    let opened : IsOpen it.notices c.args.i =
    subst (λ (x : RecordState). IsOpen x.notices c.args.i) (sym (read_record b c.from.result it below c.index_mut-it.ensures.value)) (rw (← c.self.view_is, ← c.from.ensures) at c.requires.open) in
    let inside = open_inside it.notices c.args.i is.notices opened in
    rw (← c.self.view_is, ← c.from.ensures, c.finish.ensures.notices)
    (Raises-written b c.from.result c.args.i _ 1 it _ below c.index_mut-it.ensures.value (RaisesIn-finish it c.args.i inside))
