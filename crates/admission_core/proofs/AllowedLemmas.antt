-- An ask that the reply table does not refuse is none that the book refuses.
use Rattle.std.proofs.Common.{◌≡◌, ◌≢◌, ℕ, ◌+◌, ◌<◌, ◌≤◌, eqb, get_or, length, Some, None, refl, sym, ap, subst, ◌∙◌, arith}
use Rattle.std.proofs.lemmas.Bool.{cond-true, eq-eqb, eqb-false, ltb-false, leb-false}
use Rattle.std.proofs.lemmas.Bool.Decides.{nat_tests}
use Rattle.grow_counters.specs.Counts.{counter_limit}
use Rattle.merge_core.specs.Matrix.{entry}
use Rattle.merge_core.specs.Transfer.{transfer_fault}
use Rattle.merge_core.specs.Seats.{SeatState, taken_at, seat_rights, inside_of}
use Rattle.merge_core.specs.Take.{take_fault}
use Rattle.writer_notices.specs.Notices.{NoticeState, IsOpen, announce_fault, most_writers}
use Rattle.merge_core.specs.declared.cell.Cell.TheVariants.{Out, Taken, Ann, Fin}
use Rattle.merge_core.specs.Book.{seats_at, notices_at, counter_of}
use Rattle.session_list.specs.declared.session.Phase.{Phase}
use Rattle.session_list.specs.Sessions.{phase_in}
use Rattle.admission_model.specs.declared.ask.Ask.{Ask}
use Rattle.admission_model.specs.declared.ask.Ask.TheVariants.{Read, Announce, Quill, Leave, Give, Help}
use Rattle.admission_model.specs.declared.ask.Call.TheVariants.{Ask as AskCall}
use Rattle.admission_model.specs.declared.operation.Operation.{Operation}
use Rattle.admission_model.specs.declared.reply.Plan.{Plan}
use Rattle.admission_model.specs.Account.{Account, seats_in, record_of, weight, on_phase, phase_of, arrivals}
use Rattle.admission_model.specs.View.{rights_of, plan_of}
use Rattle.admission_model.specs.Replies.{read_lines, announce_lines, write_lines, leave_lines, give_lines, help_lines, planned}
use Rattle.admission_model.specs.Serving.{reason, operation_of}
use Rattle.merge_core.specs.Layout.{LayoutState}
use Rattle.admission_model.proofs.SessionLemmas.{adds, sessions-keys, keys_member}
use Rattle.admission_model.proofs.BookLemmas.{inside_there, open_session}
use Rattle.admission_model.proofs.LawLemmas.{sound_reached}
use Rattle.admission_model.proofs.RowLemmas.{none_of}
use Rattle.admission_model.proofs.LeastLemmas.{plan_of-fits}
use Rattle.admission_model.proofs.ServingLemmas.{Clear, clear_of, some_of, waits}
use Rattle.admission_core.specs.Core.{Core, core_view, Stands, IsCore}
use Rattle.admission_core.specs.Carrying.{IsPlaceIn, MayLeave, IsAllowed}
use Rattle.admission_core.specs.Prepared.{IsAccepted}
use Rattle.admission_core.proofs.CoreLemmas.{has_book, rights_shown}

-- the record is there, and the book has its place
place_of : (c : Core) → IsCore c → (r : ℕ) → r < length c.layout.records → IsPlaceIn c.book r c.site
place_of c is r below = record {
  book = is.stands.book;
  record_there = omega (arith, is.records);
  site_there = omega (arith, is.site_there, is.sites);
  enough = is.enough r below;
}

take_clear : (st : SeatState) (i w : ℕ) → taken_at st i + w ≤ counter_limit → w ≤ seat_rights st i → take_fault st i w ≡ None
take_clear st i w full few = grind (arith, nat_tests)

announce_clear : (n : NoticeState) (s : ℕ) (announced finished : ℕ) → announced ≡ get_or n.announced s 0 → finished ≡ get_or n.finished s 0 → announced + 1 ≤ counter_limit → announced < finished + most_writers → announce_fault n s ≡ None
announce_clear n s announced finished a f full few = grind (arith, nat_tests)

transfer_clear : (st : SeatState) (i j n : ℕ) → j ≢ i → n ≢ 0 → entry st.matrix i j + n ≤ counter_limit → n ≤ seat_rights st i → transfer_fault st.matrix i j n (taken_at st i) ≡ None
transfer_clear st i j n other some full few = grind (arith, nat_tests)

-- what a session weighs is inside
weight_inside : (a : Account) (c : Core) → Stands a c → (r h : ℕ) (p : Phase) → r < length c.book.records → phase_of a r h ≡ Some p → weight (seats_in a.origin.layout r) p ≤ inside_of (seats_at c.book r) a.origin.site
weight_inside a c is r h p within there =
    let sound = sound_reached a is.reached in
    let value = weight (seats_in a.origin.layout r) in
    let f = adds value r (phase_of a) in
    let here : f r h ≡ value p = cond-true (eqb r r) (on_phase value (phase_of a r h)) 0 (eq-eqb r r refl) ∙ ap (on_phase value) there in
    omega (
      arith,
      sessions-keys value r (phase_of a) (arrivals a.origin a.done),
      keys_member r h f (arrivals a.origin a.done) (sound.listed_once r h p there),
      inside_there a c.book (has_book a c is) r within,
    )

-- a session may leave
leaves : (c : Core) → IsCore c → (r h : ℕ) (p : Phase) → r < length c.layout.records → phase_in c.sessions r h ≡ Some p → MayLeave c.book c.sessions c.site (seats_in c.layout r) r h
leaves c is r h p below there = record {
  phase = p;
  there = there;
  taken = subst (λ (i : ℕ). weight (seats_in c.layout r) p ≤ inside_of (seats_at c.book r) i) (sym stands.shows.site)
      (subst (λ (n : ℕ). weight n p ≤ inside_of (seats_at c.book r) a.origin.site) (sym seats)
      (weight_inside a c stands r h p within phase));
  unfinished = λ writes. subst (IsOpen (notices_at c.book r)) (sym stands.shows.site)
      (open_session a c.book (has_book a c stands) r h p within phase writes);
}
  where
    a : Account
    a = is.account

    stands : Stands a c
    stands = is.stands

    within : r < length c.book.records
    within = omega (arith, is.records)

    phase : phase_of a r h ≡ Some p
    phase = sym (stands.shows.phases r h) ∙ there

    seats : seats_in c.layout r ≡ seats_in a.origin.layout r
    seats = ap (λ (l : LayoutState). seats_in l r) stands.shows.layout

-- an ask that nothing refuses is allowed
pub allowed : (c : Core) → IsCore c → (ask : Ask) → reason (core_view c) (AskCall ask) ≡ None → IsAllowed c.book c.sessions c.site (seats_in c.layout (record_of (operation_of (core_view c) ask))) (operation_of (core_view c) ask)
allowed c is (Read r h) free =
    let clear : Clear (read_lines (core_view c) r h) = clear_of (read_lines (core_view c) r h) free in
    let below = leb-false (length c.layout.records) r clear.0 in
    let rights = rights_shown c is r below in (
      place_of c is r below,
      take_clear (seats_at c.book r) c.site 1
          (ltb-false counter_limit (counter_of c.book r c.site Taken + 1) clear.1.1.1.0)
          (omega (arith, rights, eqb-false (rights_of (core_view c) r) 0 clear.1.1.1.1.1.0)),
      none_of (phase_in c.sessions r h) clear.1.1.0,
    )
allowed c is (Announce r h) free =
    let clear : Clear (announce_lines (core_view c) r h) = clear_of (announce_lines (core_view c) r h) free in (
      place_of c is r (leb-false (length c.layout.records) r clear.0),
      announce_clear (notices_at c.book r) c.site (counter_of c.book r c.site Ann) (counter_of c.book r c.site Fin) refl refl
          (ltb-false counter_limit (counter_of c.book r c.site Ann + 1) clear.1.1.1.0)
          (leb-false (counter_of c.book r c.site Fin + most_writers) (counter_of c.book r c.site Ann) clear.1.1.1.1.0),
      none_of (phase_in c.sessions r h) clear.1.1.0,
    )
allowed c is (Quill r h) free =
    let clear : Clear (write_lines (core_view c) r h) = clear_of (write_lines (core_view c) r h) free in
    let below = leb-false (length c.layout.records) r clear.0 in
    let seats = seats_in c.layout r in
    let rights = rights_shown c is r below in (
      place_of c is r below,
      take_clear (seats_at c.book r) c.site seats
          (ltb-false counter_limit (counter_of c.book r c.site Taken + seats) clear.1.1.1.1.0)
          (omega (arith, rights, ltb-false (rights_of (core_view c) r) seats clear.1.1.1.1.1.0)),
      waits (phase_in c.sessions r h) clear.1.1.0 clear.1.1.1.0,
    )
allowed c is (Leave r h) free =
    let clear : Clear (leave_lines (core_view c) r h) = clear_of (leave_lines (core_view c) r h) free in
    let below = leb-false (length c.layout.records) r clear.0 in
    let there = some_of (phase_in c.sessions r h) clear.1.1.0 in
    (place_of c is r below, leaves c is r h there.0 below there.1)
allowed c is (Give r to seats) free =
    let clear : Clear (give_lines (core_view c) r to seats) = clear_of (give_lines (core_view c) r to seats) free in
    let below = leb-false (length c.layout.records) r clear.0 in (
      place_of c is r below,
      omega (arith, is.sites, leb-false c.layout.sites to clear.1.0),
      transfer_clear (seats_at c.book r) c.site to seats (eqb-false to c.site clear.1.1.0) (eqb-false seats 0 clear.1.1.1.0)
          (ltb-false counter_limit (counter_of c.book r c.site (Out to) + seats) clear.1.1.1.1.0)
          (omega (arith, rights_shown c is r below, ltb-false (rights_of (core_view c) r) seats clear.1.1.1.1.1.0)),
    )
allowed c is (Help r) free =
    let clear : Clear (help_lines (core_view c) r) = clear_of (help_lines (core_view c) r) free in
    let below = leb-false (length c.layout.records) r clear.0 in
    let there = some_of (plan_of (core_view c) r) clear.1.0 in
    let p = there.0 in
    let feasible = plan_of-fits (core_view c) r p is.site_there there.1 in
    let q = planned (plan_of (core_view c) r) in
    let same : q ≡ p = ap planned there.1 in
    let to : q.to ≡ p.to = ap (λ (x : Plan). x.to) same in
    let seats : q.seats ≡ p.seats = ap (λ (x : Plan). x.seats) same in (
      place_of c is r below,
      omega (arith, is.sites, to, feasible.there),
      transfer_clear (seats_at c.book r) c.site q.to q.seats (λ here. feasible.elsewhere (sym to ∙ here)) (λ none. absurd (omega (arith, none, seats, feasible.some)))
          (ltb-false counter_limit (counter_of c.book r c.site (Out q.to) + q.seats) clear.1.1.0)
          (omega (arith, rights_shown c is r below, seats, feasible.enough)),
    )

-- so is an accepted operation
pub accepted_allowed : (c : Core) → IsCore c → (operation : Operation) → IsAccepted c operation → IsAllowed c.book c.sessions c.site (seats_in c.layout (record_of operation)) operation
accepted_allowed c is operation it =
    subst (λ (o : Operation). IsAllowed c.book c.sessions c.site (seats_in c.layout (record_of o)) o) (sym it.1.is) (allowed c is it.0 it.1.accepted)
