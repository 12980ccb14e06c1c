-- The counters of a site's own row are few enough to add to.
use Rattle.std.proofs.Common.{◌≡◌, ℕ, ◌<◌, ◌≤◌, ◌⊎◌, inl, inr, true, false, eqb, [], length, get_or, None, ap, arith}
use Rattle.std.proofs.lemmas.Bool.{cases_lt, cases_eq, cases_Bool, cond-true, cond-false}
use Rattle.std.proofs.lemmas.Bool.Decides.{nat_tests}
use Rattle.std.proofs.lemmas.List.{get_or_past, length-map}
use Rattle.grow_counters.specs.Counts.{counter_limit}
use Rattle.merge_core.specs.Transfer.{transfer_fault}
use Rattle.merge_core.specs.Seats.{SeatState, taken_at}
use Rattle.merge_core.specs.declared.cell.Cell.{Cell}
use Rattle.merge_core.specs.declared.cell.Cell.TheVariants.{Out, Taken, Ann, Fin}
use Rattle.merge_core.specs.declared.layout.RecordSpec.{RecordSpec}
use Rattle.merge_core.specs.Layout.{LayoutState, IsLayout, RecordShape, shape_of, record_shape}
use Rattle.merge_core.specs.Rows.{grant, no_record}
use Rattle.merge_core.specs.Book.{counter_of}
use Rattle.admission_model.specs.Account.{Account, seats_in}
use Rattle.admission_model.specs.Knowledge.{known}
use Rattle.admission_model.specs.Sound.{FitsRow}
use Rattle.admission_model.proofs.StartLemmas.{shape_at}
use Rattle.admission_model.proofs.HeardLemmas.{known_fits}
use Rattle.admission_model.proofs.LawLemmas.{sound_reached}
use Rattle.admission_core.specs.Core.{Core, IsCore}

-- a record has at most 65,535 seats
pub seats_few : (layout : LayoutState) → IsLayout layout → (r : ℕ) → seats_in layout r ≤ 65535
seats_few layout is r = at (cases_lt r (length layout.records))
  where
    d : RecordSpec
    d = record { name = []; seats = 0; home = 0; problem = 0 }

    at : (r < length layout.records) ⊎ (length layout.records ≤ r) → seats_in layout r ≤ 65535
    at (inl below) =
        let e : seats_in layout r ≡ (get_or layout.records r d).seats = ap (λ (x : RecordShape). x.seats) (shape_at layout r d below) in
        let here = is.seats r d below in
        omega arith
    at (inr past) =
        let e : seats_in layout r ≡ 0 = ap (λ (x : RecordShape). x.seats) (get_or_past (shape_of layout).records r no_record (omega (arith, length-map layout.records record_shape))) in
        omega arith

-- so has a site at the start
grant_few : (layout : LayoutState) → IsLayout layout → (r s : ℕ) → grant (shape_of layout) r s ≤ 65535
grant_few layout is r s = at (cases_Bool (eqb s it.home))
  where
    it : RecordShape
    it = get_or (shape_of layout).records r no_record

    at : (eqb s it.home ≡ true) ⊎ (eqb s it.home ≡ false) → grant (shape_of layout) r s ≤ 65535
    at (inl e) = omega (arith, cond-true (eqb s it.home) it.seats 0 e, seats_few layout is r)
    at (inr e) = omega (arith, cond-false (eqb s it.home) it.seats 0 e)

-- a row that fits has no counter far past the limit
fits_few : (granted s : ℕ) (f : Cell → ℕ) → granted ≤ 65535 → FitsRow granted s f → (cell : Cell) → f cell ≤ 1000000065535
fits_few granted s f few fits (Out j) = at (cases_eq j s)
  where
    at : (j ≡ s) ⊎ (j ≡ s → ⊥) → f (Out j) ≤ 1000000065535
    at (inl e) = omega (arith, ap (λ (x : ℕ). f (Out x)) e, fits.returned_after_taken, fits.few_taken)
    at (inr ne) = omega (arith, fits.few_moved j ne)
fits_few granted s f few fits Taken = omega (arith, fits.few_taken)
fits_few granted s f few fits Ann = omega (arith, fits.few_announced)
fits_few granted s f few fits Fin = omega (arith, fits.finished_after_announced, fits.few_announced)

-- the counters of the core's own row
pub own_few : (c : Core) → IsCore c → (r : ℕ) (cell : Cell) → counter_of c.book r c.site cell ≤ 1000000065535
own_few c is r cell =
    let a : Account = is.account in
    let granted : grant (shape_of a.origin.layout) r c.site ≤ 65535 =
    omega (arith, ap (λ (l : LayoutState). grant (shape_of l) r c.site) is.stands.shows.layout, grant_few c.layout is.layout r c.site) in
    omega (
      arith,
      is.stands.shows.counters r c.site cell,
      fits_few (grant (shape_of a.origin.layout) r c.site) c.site (known a r c.site) granted (known_fits a (sound_reached a is.stands.reached) r c.site) cell,
    )

-- what may be given away is within the limit
pub gives_few : (st : SeatState) (i j n : ℕ) → transfer_fault st.matrix i j n (taken_at st i) ≡ None → n ≤ counter_limit
gives_few st i j n free = grind (arith, nat_tests)
