use Rattle.std.proofs.Common.{◌≡◌, ◌<◌, length, sym, subst, arith}
use Rattle.std.proofs.lemmas.List.{length-set}
use Rattle.rights_matrix.specs.Matrix.{site_count, row_of}
use Rattle.seat_rows.specs.Seats.{SeatState}
use Rattle.merge_core.specs.Book.{BookState}
use Rattle.merge_core.proofs.BookLemmas.{IsBook-with, Raises-written, IsRecord-read}
use Rattle.merge_core.proofs.OperationLemmas.{RaisesIn-raise, IsRecord-seats}
use Rattle.merge_core.proofs.MarkLemmas.{SameElsewhere, same_raised, marks_written}
use Rattle.merge_core.proofs.book.Book.give.Goals as goal

pub invariant_of-self : goal.invariant_of-self
invariant_of-self c =
    let b : BookState = record { sites = c.self.inside.sites; records = c.self.inside.records.items } in
    let it = c.index_mut-it.result.now in
    let below : c.from.result < length b.records = rw c.from.ensures (rw (← c.self.view_is) at c.requires.record) in
    let is = IsRecord-read b c.from.result it below c.index_mut-it.ensures.value c.self.invariant.0 in
    let same : site_count c.give.new.self.matrix ≡ site_count it.seats.matrix = rw c.give.ensures.change (length-set _ _ _) in
    let site : c.args.i < b.sites = rw (← c.self.view_is) at c.requires.site in
    let inside : c.args.i < site_count it.seats.matrix = omega (arith, is.seat_sites) in
    let within : c.args.i < length (row_of it.seats.matrix c.args.i) = omega (arith, is.seats.matrix.square c.args.i inside) in
    let marked = rw (← c.from.ensures) at c.mark.ensures in
    let elsewhere = subst (λ (st : SeatState). SameElsewhere it (record { seats = st; notices = it.notices }) c.args.i) (sym c.give.ensures.change)
    (same_raised it _ c.args.i _ c.args.w (RaisesIn-raise it c.args.i c.args.i c.args.w inside within)) in (
      IsBook-with b c.from.result _ below (IsRecord-seats b.sites it c.give.new.self is c.give.ensures.state same) c.self.invariant.0,
      marks_written b c.from.result c.args.i it _ c.self.inside.marks.items _ below c.index_mut-it.ensures.value elsewhere c.self.invariant.1 marked,
    )

pub returns-clause-book : goal.returns-clause-book
returns-clause-book c = (invariant_of-self c).0

pub returns-clause-counters : goal.returns-clause-counters
returns-clause-counters c =
    let b : BookState = record { sites = c.self.inside.sites; records = c.self.inside.records.items } in
    let it = c.index_mut-it.result.now in
    let below : c.from.result < length b.records = rw c.from.ensures (rw (← c.self.view_is) at c.requires.record) in
    let site : c.args.i < b.sites = rw (← c.self.view_is) at c.requires.site in
    let is = IsRecord-read b c.from.result it below c.index_mut-it.ensures.value c.self.invariant.0 in
    let inside : c.args.i < site_count it.seats.matrix = omega (arith, is.seat_sites) in
    let within : c.args.i < length (row_of it.seats.matrix c.args.i) = omega (arith, is.seats.matrix.square c.args.i inside) in
    rw (← c.self.view_is, ← c.from.ensures, c.give.ensures.change)
    (Raises-written b c.from.result c.args.i _ c.args.w it _ below c.index_mut-it.ensures.value (RaisesIn-raise it c.args.i c.args.i c.args.w inside within))
