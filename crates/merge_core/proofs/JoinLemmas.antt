-- A row joined to a book: its counters, its validity, and the rows that were not touched.
use Rattle.std.proofs.Common.{◌∷◌, zero, suc, map, ◌≡◌, ◌≢◌, ℕ, ◌<◌, ◌≤◌, ◌⊎◌, inl, inr, ◌==◌, cond, max, List, [], length, get_or, slice_index_or, refl, sym, ap, ◌∙◌, subst, arith, eq-eqb}
use Rattle.std.proofs.lemmas.List.{length-set, get_or-set_same, get_or-set_other, length-map}
use Rattle.std.proofs.lemmas.Bool.{cases_eq, ne_eqb, cond-false}
use Rattle.grow_counters.specs.Counts.{maxima}
use Rattle.grow_counters.proofs.CountsLemmas.{get_or-maxima}
use Rattle.rights_matrix.specs.Matrix.{site_count, row_of, grant as matrix_grant}
use Rattle.seat_rows.specs.Seats.{IsSeatState, IsValidSeatRow}
use Rattle.writer_notices.specs.Notices.{IsNotices}
use Rattle.merge_core.specs.declared.cell.Cell.{Cell}
use Rattle.merge_core.specs.declared.cell.Cell.TheVariants.{Out, Taken, Ann, Fin}
use Rattle.merge_core.specs.declared.delta.Row.{Row}
use Rattle.merge_core.specs.declared.record.RecordState.{RecordState}
use Rattle.merge_core.specs.Layout.{RecordShape}
use Rattle.merge_core.specs.Rows.{no_record, grant, counter_in, counters_of}
use Rattle.merge_core.specs.Book.{BookState, nothing_known, record_at, row_in, counter_of, shape_in, book_shape, IsRecord, IsBook}
use Rattle.merge_core.specs.Joined.{joined_record, with_row}
use Rattle.merge_core.proofs.TestLemmas.{IsPlaced, IsValid}
use Rattle.merge_core.proofs.BookLemmas.{with_record, record_at-same, record_at-other, read_record}
use Rattle.merge_core.proofs.MarkLemmas.{SameElsewhere}
use Rattle.merge_core.proofs.ShownLemmas.{stands_at}
use Rattle.merge_core.proofs.RiseLemmas.{HasSite}

-- the shape of a record that a book shows
pub shape_at : (b : BookState) (r : ℕ) → slice_index_or (book_shape b).records r no_record ≡ shape_in (record_at b r)
shape_at b r = at_list b.records r
  where
    at_list : (xs : List RecordState) (k : ℕ) → get_or (map shape_in xs) k no_record ≡ shape_in (get_or xs k nothing_known)
    at_list [] k = refl
    at_list (x ∷ xs) zero = refl
    at_list (x ∷ xs) (suc k) = at_list xs k

-- the seats that a site is granted, by the layout and by the record
pub grant_at : (b : BookState) (r s : ℕ) → grant (book_shape b) r s ≡ matrix_grant (record_at b r).seats.matrix s
grant_at b r s = ap (λ (it : RecordShape). cond (s == it.home) it.seats 0) (shape_at b r)

-- a book's site has its places in each record
pub HasSite-book : (b : BookState) (r s : ℕ) → IsBook b → r < length b.records → s < b.sites → HasSite (record_at b r) s
HasSite-book b r s book below site =
    let it = book.records r below in record {
      in_rows = omega (arith, it.seat_sites);
      in_taken = omega (arith, it.seat_sites, it.seats.size);
      in_announced = omega (arith, it.notice_sites);
      in_finished = omega (arith, it.notice_sites, it.notices.same_length);
    }

-- a valid row of a delta is one for the record
pub IsValidSeatRow-row : (b : BookState) (p : Row) → IsValid (book_shape b) p → IsValidSeatRow (record_at b p.r).seats.matrix p.s p.out p.taken
IsValidSeatRow-row b p valid =
    let granted = grant_at b p.r p.s in record {
      in_matrix = record {
        granted = omega (arith, granted, valid.kept_grant);
        own = omega (arith, granted, valid.kept_grant, valid.left_after_taken, valid.few_taken);
        sent = λ j apart. valid.few_moved j apart;
      };
      returned = omega (arith, granted, valid.left_after_taken);
      limit = valid.few_taken;
    }

-- the counters of a record joined with a row: the row's site has the greater ones
pub counter-joined : (it : RecordState) (p : Row) (t : ℕ) (c : Cell) → HasSite it p.s → length p.out ≤ length (row_of it.seats.matrix p.s) → counter_in (row_in (joined_record it p) t) c ≡ cond (p.s == t) (max (counter_in (row_in it t) c) (counter_in (counters_of p) c)) (counter_in (row_in it t) c)
counter-joined it p t c has fits = at_place (cases_eq p.s t)
  where
    joined : Cell → ℕ
    joined cell = counter_in (row_in (joined_record it p) t) cell

    same_site : (cell : Cell) → counter_in (row_in (joined_record it p) p.s) cell ≡ max (counter_in (row_in it p.s) cell) (counter_in (counters_of p) cell)
    same_site (Out j) = ap (λ (row : List ℕ). get_or row j 0) (get_or-set_same it.seats.matrix.rows p.s (maxima (row_of it.seats.matrix p.s) p.out) [] has.in_rows) ∙ get_or-maxima (row_of it.seats.matrix p.s) p.out j fits
    same_site Taken = get_or-set_same it.seats.taken p.s _ 0 has.in_taken
    same_site Ann = get_or-set_same it.notices.announced p.s _ 0 has.in_announced
    same_site Fin = get_or-set_same it.notices.finished p.s _ 0 has.in_finished

    other_site : (cell : Cell) → t ≢ p.s → counter_in (row_in (joined_record it p) t) cell ≡ counter_in (row_in it t) cell
    other_site (Out j) apart = ap (λ (row : List ℕ). get_or row j 0) (get_or-set_other it.seats.matrix.rows p.s t _ [] apart)
    other_site Taken apart = get_or-set_other it.seats.taken p.s t _ 0 apart
    other_site Ann apart = get_or-set_other it.notices.announced p.s t _ 0 apart
    other_site Fin apart = get_or-set_other it.notices.finished p.s t _ 0 apart

    at_place : (p.s ≡ t) ⊎ (p.s ≢ t) → counter_in (row_in (joined_record it p) t) c ≡ cond (p.s == t) (max (counter_in (row_in it t) c) (counter_in (counters_of p) c)) (counter_in (row_in it t) c)
    at_place (inl same) = rw (← same, eq-eqb p.s p.s refl) (same_site c)
    at_place (inr apart) = rw (ne_eqb p.s t apart) (other_site c (λ e. apart (sym e)))

-- the counters of a book joined with a row
pub counter_of-with_row : (b : BookState) (p : Row) (r s : ℕ) (c : Cell) → IsBook b → IsPlaced (book_shape b) p → counter_of (with_row b p) r s c ≡ cond (stands_at p r s) (max (counter_of b r s c) (counter_in (counters_of p) c)) (counter_of b r s c)
counter_of-with_row b p r s c book placed = at_place (cases_eq p.r r)
  where
    below : p.r < length b.records
    below = omega (arith, length-map b.records shape_in, placed.record_there)

    has : HasSite (record_at b p.r) p.s
    has = HasSite-book b p.r p.s book below (omega (arith, placed.own_there, placed.few_sites))

    fits : length p.out ≤ length (row_of (record_at b p.r).seats.matrix p.s)
    fits = let it = book.records p.r below in omega (arith, placed.few_sites, it.seat_sites, it.seats.matrix.square p.s has.in_rows)

    at_place : (p.r ≡ r) ⊎ (p.r ≢ r) → counter_of (with_row b p) r s c ≡ cond (stands_at p r s) (max (counter_of b r s c) (counter_in (counters_of p) c)) (counter_of b r s c)
    at_place (inl same) = rw (← same, eq-eqb p.r p.r refl, record_at-same b p.r (joined_record (record_at b p.r) p) below) (counter-joined (record_at b p.r) p s c has fits)
    at_place (inr apart) = rw (ne_eqb p.r r apart, record_at-other b p.r r (joined_record (record_at b p.r) p) (λ e. apart (sym e))) refl

pub placed_below : (b : BookState) (p : Row) → IsPlaced (book_shape b) p → p.r < length b.records
placed_below b p placed = omega (arith, length-map b.records shape_in, placed.record_there)

-- a record that was joined with a row is one
pub IsRecord-joined : (sites : ℕ) (it new : RecordState) (p : Row) → new ≡ joined_record it p → IsRecord sites it → IsSeatState new.seats → IsNotices new.notices → IsRecord sites new
IsRecord-joined sites it new p change is seats notices = record {
  seats = seats;
  notices = notices;
  seat_sites = ap (λ (x : RecordState). site_count x.seats.matrix) change ∙ length-set it.seats.matrix.rows p.s _ ∙ is.seat_sites;
  notice_sites = ap (λ (x : RecordState). length x.notices.announced) change ∙ length-set it.notices.announced p.s _ ∙ is.notice_sites;
}

-- what a record must have for a row to be joined to it
pub record IsJoinable (it : RecordState) (p : Row) : Type 0 where
  pub site : p.s < site_count it.seats.matrix
  pub size : length p.out ≤ site_count it.seats.matrix
  pub seats : IsValidSeatRow it.seats.matrix p.s p.out p.taken
  pub seat_state : IsSeatState it.seats
  pub notice_site : p.s < length it.notices.announced

-- the record that was read at a row's place
pub joinable_read : (b : BookState) (r : ℕ) (it : RecordState) (p : Row) → r ≡ p.r → r < length b.records → it ≡ get_or b.records r it → IsBook b → IsPlaced (book_shape b) p → IsValid (book_shape b) p → IsJoinable it p
joinable_read b r it p at_row below read book placed valid =
    subst (λ (x : RecordState). IsJoinable x p) (sym there)
    (record {
      site = omega (arith, placed.own_there, placed.few_sites, is.seat_sites);
      size = omega (arith, placed.few_sites, is.seat_sites);
      seats = IsValidSeatRow-row b p valid;
      seat_state = is.seats;
      notice_site = omega (arith, placed.own_there, placed.few_sites, is.notice_sites);
    })
  where
    is : IsRecord b.sites (record_at b p.r)
    is = book.records p.r (omega arith)

    there : it ≡ record_at b p.r
    there = read_record b r it below read ∙ ap (record_at b) at_row

-- a record joined with a row has every other row as it was
pub same_joined : (it new : RecordState) (p : Row) → {sites : ℕ} → IsRecord sites it → IsJoinable it p → new ≡ joined_record it p → SameElsewhere it new p.s
same_joined it new p is fits change = rw change (record {
  shape = refl;
  rows = λ t apart c.
      counter-joined it p t c has (omega (arith, fits.size, is.seats.matrix.square p.s fits.site))
      ∙ cond-false {A = ℕ} (p.s == t) (max (counter_in (row_in it t) c) (counter_in (counters_of p) c)) (counter_in (row_in it t) c) (ne_eqb p.s t (λ e. apart (sym e)));
})
  where
    has : HasSite it p.s
    has = record {
      in_rows = fits.site;
      in_taken = omega (arith, fits.site, is.seats.size);
      in_announced = fits.notice_site;
      in_finished = omega (arith, fits.notice_site, is.notices.same_length);
    }

-- what is written over the record that was read is the book joined with the row
pub with_row-written : (b : BookState) (r : ℕ) (it new : RecordState) (p : Row) → r ≡ p.r → r < length b.records → it ≡ get_or b.records r it → new ≡ joined_record it p → with_record b r new ≡ with_row b p
with_row-written b r it new p at_row below read change =
    ap (with_record b r) (change ∙ ap (λ (x : RecordState). joined_record x p) (read_record b r it below read ∙ ap (record_at b) at_row))
    ∙ ap (λ k. with_record b k (joined_record (record_at b p.r) p)) at_row
