-- The join of a book with rows, one after another.
use Rattle.std.proofs.Common.{◌≡◌, ◌≢◌, ℕ, ◌+◌, ◌<◌, ◌≤◌, ◌⊎◌, inl, inr, Bool, true, false, ◌==◌, cond, max, All, List, [], ◌∷◌, ◌++◌, length, get_or, take, refl, sym, ap, ◌∙◌, subst, arith, eq-eqb}
use Rattle.std.proofs.lemmas.List.{get_or_past, ext_get_or, take_more, length-map}
use Rattle.std.proofs.lemmas.Bool.{cases_eq, cases_lt, ne_eqb}
use Rattle.rights_matrix.specs.Matrix.{row_of, grant as matrix_grant}
use Rattle.merge_core.specs.declared.cell.Cell.{Cell}
use Rattle.merge_core.specs.declared.cell.Cell.TheVariants.{Out, Taken, Ann, Fin}
use Rattle.merge_core.specs.declared.delta.Row.{Row}
use Rattle.merge_core.specs.Layout.{Shape}
use Rattle.merge_core.specs.Delta.{IsRising}
use Rattle.merge_core.specs.Rows.{grant, start_counter, counter_in, counters_of}
use Rattle.merge_core.specs.Naming.{shown_by, ReachesUnit, RowsName}
use Rattle.merge_core.specs.Book.{BookState, nothing_known, record_at, counter_of, Names, shape_in, book_shape, book_rises, IsBook}
use Rattle.merge_core.specs.Order.{IsBelow, IsLeastWith}
use Rattle.merge_core.specs.Joined.{joined_record, with_row}
use Rattle.merge_core.proofs.TestLemmas.{IsPlaced}
use Rattle.merge_core.proofs.BookLemmas.{book_shape-same}
use Rattle.merge_core.proofs.ShownLemmas.{stands_at, shown_by-push, shown_by-absent, all_apart}
use Rattle.merge_core.proofs.RiseLemmas.{AgreeAt, record_rises-onward, records_rise-onward, records_rise-written}
use Rattle.merge_core.proofs.UnitLemmas.{ReachesUnit-max, units-from_le}
use Rattle.merge_core.proofs.JoinLemmas.{grant_at, HasSite-book, counter_of-with_row, placed_below}

-- no seats, whether at home or not
no_seats : (t : Bool) → ◌≡◌ {A = ℕ} (cond t 0 0) 0
no_seats true = refl
no_seats false = refl

-- a site that is not there is granted nothing
grant_past : (b : BookState) (r s : ℕ) → IsBook b → b.sites ≤ s → grant (book_shape b) r s ≡ 0
grant_past b r s book past = grant_at b r s ∙ at_record (cases_lt r (length b.records))
  where
    at_record : (r < length b.records) ⊎ (length b.records ≤ r) → matrix_grant (record_at b r).seats.matrix s ≡ 0
    at_record (inl below) =
        let it = book.records r below in
        let away : s ≢ (record_at b r).seats.matrix.home = omega (arith, it.seats.matrix.home, it.seat_sites) in
        rw (ne_eqb s (record_at b r).seats.matrix.home away) refl
    at_record (inr none) = rw (get_or_past b.records r nothing_known none) (no_seats (s == 0))

-- a book names the grants at least
pub start_below : (b : BookState) (r s : ℕ) (cell : Cell) → IsBook b → start_counter (book_shape b) r s cell ≤ counter_of b r s cell
start_below b r s (Out j) book = at_site (cases_eq j s) (cases_lt s b.sites) (cases_lt r (length b.records))
  where
    at_site : (j ≡ s) ⊎ (j ≢ s) → (s < b.sites) ⊎ (b.sites ≤ s) → (r < length b.records) ⊎ (length b.records ≤ r) → cond (j == s) (grant (book_shape b) r s) 0 ≤ counter_of b r s (Out j)
    at_site (inl same) (inl site) (inl below) =
        let it = book.records r below in
        let valid = it.seats.matrix.valid s (omega (arith, it.seat_sites)) in
        rw (same, eq-eqb s s refl) (omega (arith, grant_at b r s, valid.granted))
    at_site (inl same) (inl site) (inr none) =
        let nothing : grant (book_shape b) r s ≡ 0 = grant_at b r s ∙ rw (get_or_past b.records r nothing_known none) (no_seats (s == 0)) in
        rw (same, eq-eqb s s refl, nothing) (omega arith)
    at_site (inl same) (inr past) there = rw (same, eq-eqb s s refl, grant_past b r s book past) (omega arith)
    at_site (inr apart) site there = rw (ne_eqb j s apart) (omega arith)
start_below b r s Taken book = omega arith
start_below b r s Ann book = omega arith
start_below b r s Fin book = omega arith

-- a book that is another one joined with rows
pub record IsJoinedWith (old now : BookState) (rows : List Row) : Type 0 where
  pub book : IsBook now
  pub shape : book_shape now ≡ book_shape old
  pub counters : (r s : ℕ) (cell : Cell) → counter_of now r s cell ≡ max (counter_of old r s cell) (shown_by (book_shape old) rows r s cell)

pub IsJoinedWith-start : (b : BookState) → IsBook b → IsJoinedWith b b []
IsJoinedWith-start b book =
    record { book = book; shape = refl; counters = λ r s cell. omega (arith, start_below b r s cell book) }

pub shape-with_row : (b : BookState) (p : Row) → book_shape (with_row b p) ≡ book_shape b
shape-with_row b p = book_shape-same b p.r (joined_record (record_at b p.r) p) refl

-- at the place of a row that is still to come, the book is as it was
untouched : (old now : BookState) (rows : List Row) (i : ℕ) (p : Row) (cell : Cell) → IsBook old → IsRising rows → i < length rows → p ≡ get_or rows i p → IsJoinedWith old now (take i rows) → counter_of now p.r p.s cell ≡ counter_of old p.r p.s cell
untouched old now rows i p cell book rising below read joined =
    omega (arith, joined.counters p.r p.s cell, shown_by-absent (book_shape old) (take i rows) p.r p.s cell (all_apart rows i p rising below read), start_below old p.r p.s cell book)

pub IsJoinedWith-step : (old now : BookState) (rows : List Row) (i : ℕ) (p : Row) → IsBook old → IsRising rows → i < length rows → p ≡ get_or rows i p → IsPlaced (book_shape now) p → IsJoinedWith old now (take i rows) → IsBook (with_row now p) → IsJoinedWith old (with_row now p) (take (i + 1) rows)
IsJoinedWith-step old now rows i p book rising below read placed joined next = record {
  book = next;
  shape = shape-with_row now p ∙ joined.shape;
  counters = λ r s cell. at_place r s cell (cases_eq p.r r) (cases_eq p.s s);
}
  where
    one_more : take (i + 1) rows ≡ take i rows ++ p ∷ []
    one_more = rw read (take_more rows i p below)

    shown : (r s : ℕ) (cell : Cell) → shown_by (book_shape old) (take (i + 1) rows) r s cell ≡ cond (stands_at p r s) (counter_in (counters_of p) cell) (shown_by (book_shape old) (take i rows) r s cell)
    shown r s cell = rw one_more (shown_by-push (book_shape old) (take i rows) p r s cell (all_apart rows i p rising below read))

    elsewhere : (r s : ℕ) (cell : Cell) → stands_at p r s ≡ false → counter_of (with_row now p) r s cell ≡ max (counter_of old r s cell) (shown_by (book_shape old) (take (i + 1) rows) r s cell)
    elsewhere r s cell apart =
        counter_of-with_row now p r s cell joined.book placed ∙ rw (shown r s cell, apart) (joined.counters r s cell)

    here : (cell : Cell) → counter_of (with_row now p) p.r p.s cell ≡ max (counter_of old p.r p.s cell) (shown_by (book_shape old) (take (i + 1) rows) p.r p.s cell)
    here cell =
        counter_of-with_row now p p.r p.s cell joined.book placed
        ∙ rw (shown p.r p.s cell, eq-eqb p.r p.r refl, eq-eqb p.s p.s refl) (ap (λ n. max n (counter_in (counters_of p) cell)) (untouched old now rows i p cell book rising below read joined))

    at_place : (r s : ℕ) (cell : Cell) → (p.r ≡ r) ⊎ (p.r ≢ r) → (p.s ≡ s) ⊎ (p.s ≢ s) → counter_of (with_row now p) r s cell ≡ max (counter_of old r s cell) (shown_by (book_shape old) (take (i + 1) rows) r s cell)
    at_place r s cell (inl same) (inl same_site) = rw (← same, ← same_site) (here cell)
    at_place r s cell (inl same) (inr apart) = elsewhere r s cell (rw (ne_eqb p.s s apart, eq-eqb p.r r same) refl)
    at_place r s cell (inr apart) site = elsewhere r s cell (rw (ne_eqb p.r r apart) refl)

-- there both books agree, row by row
agree : (old now : BookState) (rows : List Row) (i : ℕ) (p : Row) → IsBook old → IsRising rows → i < length rows → p ≡ get_or rows i p → IsPlaced (book_shape now) p → IsJoinedWith old now (take i rows) → AgreeAt (record_at old p.r) (record_at now p.r) p.s
agree old now rows i p book rising below read placed joined = record {
  out = ext_get_or 0 (row_of (record_at now p.r).seats.matrix p.s) (row_of (record_at old p.r).seats.matrix p.s) same_length (λ j inside. untouched old now rows i p (Out j) book rising below read joined);
  taken = untouched old now rows i p Taken book rising below read joined;
  ann = untouched old now rows i p Ann book rising below read joined;
  fin = untouched old now rows i p Fin book rising below read joined;
}
  where
    records : length now.records ≡ length old.records
    records = sym (length-map now.records shape_in) ∙ ap (λ (shape : Shape). length shape.records) joined.shape ∙ length-map old.records shape_in

    sites : now.sites ≡ old.sites
    sites = ap (λ (shape : Shape). shape.sites) joined.shape

    in_now : p.r < length now.records
    in_now = placed_below now p placed

    same_length : length (row_of (record_at now p.r).seats.matrix p.s) ≡ length (row_of (record_at old p.r).seats.matrix p.s)
    same_length =
        let x = joined.book.records p.r in_now in
        let y = book.records p.r (omega (arith, records, in_now)) in
        let there : p.s < now.sites = omega (arith, placed.own_there, placed.few_sites) in
        omega (arith, sites, x.seat_sites, y.seat_sites, x.seats.matrix.square p.s (omega (arith, x.seat_sites)), y.seats.matrix.square p.s (omega (arith, sites, y.seat_sites)))

-- the counters that rise with one row more
pub book_rises-step : (old now : BookState) (rows : List Row) (i : ℕ) (p : Row) → IsBook old → IsRising rows → i < length rows → p ≡ get_or rows i p → IsPlaced (book_shape now) p → IsJoinedWith old now (take i rows) → book_rises old (with_row now p) ≡ book_rises old now + book_rises now (with_row now p)
book_rises-step old now rows i p book rising below read placed joined =
    let in_now = placed_below now p placed in
    let records : length now.records ≡ length old.records =
    sym (length-map now.records shape_in) ∙ ap (λ (shape : Shape). length shape.records) joined.shape ∙ length-map old.records shape_in in
    let sites : now.sites ≡ old.sites = ap (λ (shape : Shape). shape.sites) joined.shape in
    let in_old : p.r < length old.records = omega arith in
    let site_there : p.s < now.sites = omega (arith, placed.own_there, placed.few_sites) in
    let x = HasSite-book old p.r p.s book in_old (omega arith) in
    let y = HasSite-book now p.r p.s joined.book in_now site_there in
    let st = joined_record (record_at now p.r) p in
    let onward = record_rises-onward (record_at old p.r) (record_at now p.r) p x y (agree old now rows i p book rising below read placed joined) in
    records_rise-onward old.records now.records p.r st in_old in_now onward
    ∙ ap (λ n. book_rises old now + n) (sym (records_rise-written now.records p.r st in_now))

-- one turn of a join
pub join_step : (old now new : BookState) (rows : List Row) (i : ℕ) (p : Row) (risen by : ℕ) → IsBook old → IsRising rows → All (IsPlaced (book_shape old)) rows → i < length rows → p ≡ get_or rows i p → IsJoinedWith old now (take i rows) → risen ≡ book_rises old now → new ≡ with_row now p → by ≡ book_rises now new → IsBook new → IsJoinedWith old new (take (i + 1) rows) × (risen + by ≡ book_rises old new)
join_step old now new rows i p risen by book rising all_placed below read joined counted change counts next =
    let placed_old : IsPlaced (book_shape old) p = subst (λ (x : Row). IsPlaced (book_shape old) x) (sym read) (all_placed i p below) in
    let placed : IsPlaced (book_shape now) p = subst (λ (shape : Shape). IsPlaced shape p) (sym joined.shape) placed_old in
    let next_book : IsBook (with_row now p) = subst (λ (x : BookState). IsBook x) change next in
    let now_joined = IsJoinedWith-step old now rows i p book rising below read placed joined next_book in
    let rises = book_rises-step old now rows i p book rising below read placed joined in
    let counts_here : by ≡ book_rises now (with_row now p) = subst (λ (x : BookState). by ≡ book_rises now x) change counts in (
      subst (λ (x : BookState). IsJoinedWith old x (take (i + 1) rows)) (sym change) now_joined,
      subst (λ (x : BookState). risen + by ≡ book_rises old x) (sym change) (omega arith),
    )

-- the joined book is the least above the book and the rows
pub IsLeastWith-joined : (old new : BookState) (rows : List Row) → IsJoinedWith old new rows → IsLeastWith old rows new
IsLeastWith-joined old new rows joined = record {
  above_book = λ r s cell k names. units-from_le (counter_of old r s cell) (counter_of new r s cell) (omega (arith, joined.counters r s cell)) k names;
  above_rows = λ r s cell k names. units-from_le (shown_by (book_shape new) rows r s cell) (counter_of new r s cell) (rw joined.shape (omega (arith, joined.counters r s cell))) k names;
  least = λ c above_old above_rows r s cell k names. either r s cell k c above_old above_rows ((ReachesUnit-max (counter_of old r s cell) (shown_by (book_shape old) rows r s cell) k).0 (subst (λ (n : ℕ). ReachesUnit n k) (joined.counters r s cell) names));
}
  where
    either : (r s : ℕ) (cell : Cell) (k : ℕ) (c : BookState) → IsBelow old c → ((r s : ℕ) (cell : Cell) (k : ℕ) → RowsName (book_shape old) rows r s cell k → Names c r s cell k) → Names old r s cell k ⊎ RowsName (book_shape old) rows r s cell k → Names c r s cell k
    either r s cell k c above_old above_rows (inl names) = above_old r s cell k names
    either r s cell k c above_old above_rows (inr names) = above_rows r s cell k names
