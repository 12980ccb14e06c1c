use Rattle.std.proofs.Common.{◌≡◌, ◌<◌, length, arith}
use Rattle.std.proofs.lemmas.List.{length-set}
use Rattle.rights_matrix.specs.Matrix.{site_count, row_of}
use Rattle.seat_rows.specs.Seats.{SeatState, after_raise}
use Rattle.merge_core.specs.Book.{BookState}
use Rattle.merge_core.proofs.BookLemmas.{IsBook-with, Raises-written, IsRecord-read}
use Rattle.merge_core.proofs.OperationLemmas.{RaisesIn-raise, IsRecord-seats, either_way, on_success}
use Rattle.merge_core.proofs.MarkLemmas.{SameElsewhere, same_raised, same_unwritten, whichever, marks_written}
use Rattle.merge_core.proofs.book.Book.transfer.Goals as goal

pub invariant_of-self : goal.invariant_of-self
invariant_of-self c =
    let b : BookState = record { sites = c.self.inside.sites; records = c.self.inside.records.items } in
    let it = c.index_mut-it.result.now in
    let below : c.from.result < length b.records = rw c.from.ensures (rw (← c.self.view_is) at c.requires.record) in
    let is = IsRecord-read b c.from.result it below c.index_mut-it.ensures.value c.self.invariant.0 in
    let site : c.args.i < b.sites = rw (← c.self.view_is) at c.requires.from in
    let to : c.args.j < b.sites = rw (← c.self.view_is) at c.requires.to in
    let same : site_count c.transfer.new.self.matrix ≡ site_count it.seats.matrix =
    either_way (λ (st : SeatState). site_count st.matrix) c.transfer.result c.transfer.new.self (after_raise it.seats c.args.i c.args.j c.args.n) it.seats c.transfer.ensures.change (length-set _ _ _) in
    let inside : c.args.i < site_count it.seats.matrix = omega (arith, is.seat_sites, site) in
    let within : c.args.j < length (row_of it.seats.matrix c.args.i) = omega (arith, is.seat_sites, to, is.seats.matrix.square c.args.i inside) in
    let marked = rw (← c.from.ensures) at c.mark.ensures in
    let elsewhere = whichever (λ (st : SeatState). SameElsewhere it (record { seats = st; notices = it.notices }) c.args.i) c.transfer.result c.transfer.new.self (after_raise it.seats c.args.i c.args.j c.args.n) it.seats c.transfer.ensures.change
    (same_raised it _ c.args.i _ c.args.n (RaisesIn-raise it c.args.i c.args.j c.args.n inside within)) (same_unwritten it c.args.i) in (
      IsBook-with b c.from.result _ below (IsRecord-seats b.sites it c.transfer.new.self is c.transfer.ensures.state same) c.self.invariant.0,
      marks_written b c.from.result c.args.i it _ c.self.inside.marks.items _ below c.index_mut-it.ensures.value elsewhere c.self.invariant.1 marked,
    )

pub returns-clause-book : goal.returns-clause-book
returns-clause-book c = (invariant_of-self c).0

pub returns-clause-counters : goal.returns-clause-counters
returns-clause-counters c =
    let b : BookState = record { sites = c.self.inside.sites; records = c.self.inside.records.items } in
    let it = c.index_mut-it.result.now in
    let below : c.from.result < length b.records = rw c.from.ensures (rw (← c.self.view_is) at c.requires.record) in
    let is = IsRecord-read b c.from.result it below c.index_mut-it.ensures.value c.self.invariant.0 in
    let site : c.args.i < b.sites = rw (← c.self.view_is) at c.requires.from in
    let to : c.args.j < b.sites = rw (← c.self.view_is) at c.requires.to in
    let inside : c.args.i < site_count it.seats.matrix = omega (arith, is.seat_sites) in
    let within : c.args.j < length (row_of it.seats.matrix c.args.i) = omega (arith, is.seat_sites, is.seats.matrix.square c.args.i inside) in
    on_success c.transfer.result c.transfer.new.self (after_raise it.seats c.args.i c.args.j c.args.n) it.seats _ c.transfer.ensures.change
    (λ done. rw (← c.self.view_is, ← c.from.ensures, done)
    (Raises-written b c.from.result c.args.i _ c.args.n it _ below c.index_mut-it.ensures.value (RaisesIn-raise it c.args.i c.args.j c.args.n inside within)))
