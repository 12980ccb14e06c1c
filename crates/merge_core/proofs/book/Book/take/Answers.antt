use Rattle.std.proofs.Common.{◌≡◌, ◌<◌, length, refl, arith}
use Rattle.rights_matrix.specs.Matrix.{site_count}
use Rattle.seat_rows.specs.Seats.{SeatState, after_take}
use Rattle.merge_core.specs.Book.{BookState}
use Rattle.merge_core.proofs.BookLemmas.{IsBook-with, Raises-written, IsRecord-read}
use Rattle.merge_core.proofs.OperationLemmas.{RaisesIn-take, IsRecord-seats, either_way, on_success}
use Rattle.merge_core.proofs.MarkLemmas.{SameElsewhere, same_raised, same_unwritten, whichever, marks_written}
use Rattle.merge_core.proofs.book.Book.take.Goals as goal

pub invariant_of-self : goal.invariant_of-self
invariant_of-self c =
    let b : BookState = record { sites = c.self.inside.sites; records = c.self.inside.records.items } in
    let it = c.index_mut-it.result.now in
    let below : c.from.result < length b.records = rw c.from.ensures (rw (← c.self.view_is) at c.requires.record) in
    let is = IsRecord-read b c.from.result it below c.index_mut-it.ensures.value c.self.invariant.0 in
    let site : c.args.i < b.sites = rw (← c.self.view_is) at c.requires.site in
    let same : site_count c.take.new.self.matrix ≡ site_count it.seats.matrix =
    either_way (λ (st : SeatState). site_count st.matrix) c.take.result c.take.new.self (after_take it.seats c.args.i c.args.w) it.seats c.take.ensures.change refl in
    let inside : c.args.i < length it.seats.taken = omega (arith, is.seat_sites, is.seats.size, site) in
    let marked = rw (← c.from.ensures) at c.mark.ensures in
    let elsewhere = whichever (λ (st : SeatState). SameElsewhere it (record { seats = st; notices = it.notices }) c.args.i) c.take.result c.take.new.self (after_take it.seats c.args.i c.args.w) it.seats c.take.ensures.change
    (same_raised it _ c.args.i _ c.args.w (RaisesIn-take it c.args.i c.args.w inside)) (same_unwritten it c.args.i) in (
      IsBook-with b c.from.result _ below (IsRecord-seats b.sites it c.take.new.self is c.take.ensures.state same) c.self.invariant.0,
      marks_written b c.from.result c.args.i it _ c.self.inside.marks.items _ below c.index_mut-it.ensures.value elsewhere c.self.invariant.1 marked,
    )

pub returns-clause-book : goal.returns-clause-book
returns-clause-book c = (invariant_of-self c).0

pub returns-clause-counters : goal.returns-clause-counters
returns-clause-counters c =
    let b : BookState = record { sites = c.self.inside.sites; records = c.self.inside.records.items } in
    let it = c.index_mut-it.result.now in
    let below : c.from.result < length b.records = rw c.from.ensures (rw (← c.self.view_is) at c.requires.record) in
    let is = IsRecord-read b c.from.result it below c.index_mut-it.ensures.value c.self.invariant.0 in
    let site : c.args.i < b.sites = rw (← c.self.view_is) at c.requires.site in
    let inside : c.args.i < length it.seats.taken = omega (arith, is.seat_sites, is.seats.size) in
    on_success c.take.result c.take.new.self (after_take it.seats c.args.i c.args.w) it.seats _ c.take.ensures.change
    (λ done. rw (← c.self.view_is, ← c.from.ensures, done)
    (Raises-written b c.from.result c.args.i _ c.args.w it _ below c.index_mut-it.ensures.value (RaisesIn-take it c.args.i c.args.w inside)))
