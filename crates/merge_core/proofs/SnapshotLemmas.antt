-- The rows of a snapshot: what a book tells, row by row, shows what the book knows.
use Rattle.std.proofs.Common.{◌≡◌, ◌≢◌, ℕ, zero, suc, ◌^◌, ◌<◌, ◌≤◌, ◌⊎◌, ◌↔◌, inl, inr, Bool, true, false, not, ◌&&◌, ◌||◌, ◌==◌, eqb, ltb, cond, List, [], ◌∷◌, length, get_or, map, refl, sym, ap, ◌∙◌, subst, arith, eq-eqb, eqb-true}
use Rattle.std.specs.List.{AllByRecursion}
use Rattle.std.proofs.lemmas.Bool.{cases_eq, cases_lt, ne_eqb, and_parts, and_from, false≢true}
use Rattle.std.proofs.lemmas.Bool.Decides.{nat_tests}
use Rattle.std.proofs.lemmas.List.{length-map, get_or_past, ext_get_or}
use Rattle.std.proofs.lemmas.List.Elements.{recursion_from_All, All-from_get_or}
use Rattle.rights_matrix.proofs.KeptLemmas.{grant_past, entry_past}
use Rattle.rights_matrix.specs.Matrix.{MatrixState, site_count, row_of, entry, grant as grant_of, IsValidRow, IsMatrix}
use Rattle.merge_core.specs.declared.cell.Cell.{Cell}
use Rattle.merge_core.specs.declared.cell.Cell.TheVariants.{Out, Taken, Ann, Fin}
use Rattle.merge_core.specs.declared.delta.Row.{Row}
use Rattle.merge_core.specs.declared.record.RecordState.{RecordState}
use Rattle.merge_core.specs.Delta.{IsRow, IsDelta}
use Rattle.merge_core.specs.Rows.{counter_in, counters_of, start_counter, no_record}
use Rattle.merge_core.specs.Tests.{is_placed, is_valid}
use Rattle.merge_core.specs.Naming.{shown_by, RowsName}
use Rattle.merge_core.specs.Check.{IsChecked}
use Rattle.merge_core.specs.Book.{BookState, nothing_known, record_at, row_in, counter_of, Names, shape_in, book_shape, IsRecord, IsBook}
use Rattle.merge_core.specs.Moved.{first_numbers, told_row, has_moved, all_moved}
use Rattle.merge_core.specs.Kept.{start_in}
use Rattle.merge_core.specs.Sums.{total, one_if, number_of_cells}
use Rattle.merge_core.proofs.BookLemmas.{read_record}
use Rattle.merge_core.proofs.KeepLemmas.{start_in-record}
use Rattle.merge_core.proofs.MovedLemmas.{length-first_numbers, first_numbers-at, each_moved, is_told, IsRising-moved, still_at_start, some_of_four}
use Rattle.merge_core.proofs.ShownLemmas.{stands_at, shown_by-absent}
use Rattle.merge_core.proofs.TestLemmas.{IsPlaced, IsValid, placed_from, valid_from, none_failing}
use Rattle.merge_core.proofs.UnitLemmas.{units-from_same}

-- the row of a site as the book holds it
abbrev pub row_of_book : BookState → ℕ → ℕ → Row
row_of_book b r s =
    let it = row_in (record_at b r) s in record { r = r; s = s; out = it.out; taken = it.taken; ann = it.ann; fin = it.fin }

-- .. is the row that is told
pub told_row-book : (b : BookState) (r s : ℕ) → IsBook b → r < length b.records → s < b.sites → told_row b.sites (counter_of b) r s ≡ row_of_book b r s
told_row-book b r s book inside here =
    λ i. record { r = r; s = s; out = outs i; taken = counter_of b r s Taken; ann = counter_of b r s Ann; fin = counter_of b r s Fin }
  where
    is : IsRecord b.sites (record_at b r)
    is = book.records r inside

    row : List ℕ
    row = row_of (record_at b r).seats.matrix s

    width : length row ≡ b.sites
    width = is.seats.matrix.square s (omega (arith, is.seat_sites)) ∙ is.seat_sites

    numbers : ℕ → ℕ
    numbers j = counter_of b r s (Out j)

    outs : first_numbers b.sites numbers ≡ row
    outs =
        ext_get_or 0 (first_numbers b.sites numbers) row (length-first_numbers b.sites numbers ∙ sym width)
        (λ j below. first_numbers-at b.sites numbers j (omega (arith, length-first_numbers b.sites numbers)))

-- what holds of the row at each place holds of every row that is told
each_row : (b : BookState) (P : Row → Type 0) → IsBook b → ((r s : ℕ) → r < length b.records → s < b.sites → P (row_of_book b r s)) → AllByRecursion P (all_moved (book_shape b) (counter_of b))
each_row b P book each =
    each_moved (book_shape b) (counter_of b) P
    (λ r s below site.
    let inside : r < length b.records = omega (arith, length-map b.records shape_in) in
    subst P (sym (told_row-book b r s book inside site)) (each r s inside site))

-- ---- each row has its place, and its numbers fit

shape_at : (records : List RecordState) (r : ℕ) → get_or (map shape_in records) r no_record ≡ shape_in (get_or records r nothing_known)
shape_at [] r = refl
shape_at (x ∷ xs) zero = refl
shape_at (x ∷ xs) (suc r) = shape_at xs r

IsPlaced-row : (b : BookState) (r s : ℕ) → IsBook b → r < length b.records → s < b.sites → IsPlaced (book_shape b) (row_of_book b r s)
IsPlaced-row b r s book in_records in_sites = record {
  record_there = omega (arith, length-map b.records shape_in);
  own_there = omega (arith, is.seats.matrix.square s (omega (arith, is.seat_sites)), is.seat_sites);
  few_sites = omega (arith, is.seats.matrix.square s (omega (arith, is.seat_sites)), is.seat_sites);
}
  where
    is : IsRecord b.sites (record_at b r)
    is = book.records r in_records

IsValid-row : (b : BookState) (r s : ℕ) → IsBook b → r < length b.records → s < b.sites → IsValid (book_shape b) (row_of_book b r s)
IsValid-row b r s book in_records in_sites = record {
  kept_grant = rw (shape_at b.records r) valid.granted;
  left_after_taken = rw (shape_at b.records r) (is.seats.returned s inside);
  few_taken = is.seats.limit s inside;
  few_moved = valid.sent;
  finished_after_announced = is.notices.in_order s;
  few_announced = is.notices.limited s;
}
  where
    is : IsRecord b.sites (record_at b r)
    is = book.records r in_records

    inside : s < site_count (record_at b r).seats.matrix
    inside = omega (arith, is.seat_sites)

    valid : IsValidRow (record_at b r).seats.matrix s (row_of (record_at b r).seats.matrix s)
    valid = is.seats.matrix.valid s inside

-- an entry of a valid row
entry_fits : (m : MatrixState) (s j : ℕ) → IsMatrix m → IsValidRow m s (row_of m s) → entry m s j < 2 ^ 64
entry_fits m s j is valid = at_place (cases_eq j s)
  where
    few : grant_of m s < 2 ^ 32
    few = grind (arith, nat_tests, is.few_seats)

    at_place : (j ≡ s) ⊎ (j ≢ s) → entry m s j < 2 ^ 64
    at_place (inl same) = rw same (omega (arith, valid.own, few))
    at_place (inr apart) = omega (arith, valid.sent j apart)

IsRow-row : (b : BookState) (r s : ℕ) → IsBook b → r < length b.records → s < b.sites → IsRow (row_of_book b r s)
IsRow-row b r s book in_records in_sites = record {
  record_number = omega (arith, book.few_records);
  site_number = omega (arith, book.few_sites);
  some_sites = omega (arith, size);
  few_sites = omega (arith, size, book.few_sites);
  out_fits = recursion_from_All (λ n. n < 2 ^ 64) (row_of m s) (All-from_get_or (λ n. n < 2 ^ 64) (row_of m s) 0 (λ j below. entry_fits m s j is.seats.matrix (is.seats.matrix.valid s inside)));
  taken_fits = omega (arith, is.seats.limit s inside);
  ann_fits = omega (arith, is.notices.limited s);
  fin_fits = omega (arith, is.notices.in_order s, is.notices.limited s);
}
  where
    m : MatrixState
    m = (record_at b r).seats.matrix

    is : IsRecord b.sites (record_at b r)
    is = book.records r in_records

    inside : s < site_count m
    inside = omega (arith, is.seat_sites)

    size : length (row_of m s) ≡ b.sites
    size = is.seats.matrix.square s inside ∙ is.seat_sites

pub IsChecked-snapshot : (b : BookState) → IsBook b → IsChecked (book_shape b) (all_moved (book_shape b) (counter_of b))
IsChecked-snapshot b book = record {
  placed = none_failing (is_placed (book_shape b)) rows (each_row b (λ p. is_placed (book_shape b) p ≡ true) book (λ r s in_records in_sites. placed_from (book_shape b) (row_of_book b r s) (IsPlaced-row b r s book in_records in_sites)));
  valid = none_failing (is_valid (book_shape b)) rows (each_row b (λ p. is_valid (book_shape b) p ≡ true) book (λ r s in_records in_sites. valid_from (book_shape b) (row_of_book b r s) (IsValid-row b r s book in_records in_sites)));
}
  where
    rows : List Row
    rows = all_moved (book_shape b) (counter_of b)

pub IsDelta-snapshot : (b : BookState) (from : ℕ) → IsBook b → from < b.sites → IsDelta (record { from = from; rows = all_moved (book_shape b) (counter_of b) })
IsDelta-snapshot b from book inside = record {
  from_site = omega (arith, book.few_sites);
  rising = IsRising-moved (book_shape b) (counter_of b);
  rows = each_row b IsRow book (λ r s in_records in_sites. IsRow-row b r s book in_records in_sites);
}

-- ---- the rows show the counters of the book

-- the place of a row
stands_there : (p : Row) (r s : ℕ) → stands_at p r s ≡ true → (p.r ≡ r) × (p.s ≡ s)
stands_there p r s e =
    let parts = and_parts (p.r == r) (p.s == s) e in (eqb-true p.r r parts.0, eqb-true p.s s parts.1)

stands_here : (r s : ℕ) → ((r == r) && (s == s)) ≡ true
stands_here r s = and_from (r == r) (s == s) (eq-eqb r r refl) (eq-eqb s s refl)

same_either : (b : Bool) (n : ℕ) → cond b n n ≡ n
same_either true n = refl
same_either false n = refl

shown_first : (b : BookState) (p : Row) (ps : List Row) (r s : ℕ) (cell : Cell) (stands : Bool) → stands_at p r s ≡ stands → counter_in (counters_of p) cell ≡ counter_of b p.r p.s cell → (shown_by (book_shape b) ps r s cell ≡ counter_of b r s cell) ⊎ AllByRecursion (λ q. stands_at q r s ≡ false) ps → (shown_by (book_shape b) (p ∷ ps) r s cell ≡ counter_of b r s cell) ⊎ AllByRecursion (λ q. stands_at q r s ≡ false) (p ∷ ps)
shown_first b p ps r s cell true e here rest =
    let place = stands_there p r s e in
    inl (rw e (here ∙ rw (place.0, place.1) refl))
shown_first b p ps r s cell false e here (inl shown) = inl (rw e shown)
shown_first b p ps r s cell false e here (inr absent) = inr (e, absent)

-- rows with the counters of a book show them, wherever one of them stands
shown_or_absent : (b : BookState) (rows : List Row) (r s : ℕ) (cell : Cell) → AllByRecursion (λ p. counter_in (counters_of p) cell ≡ counter_of b p.r p.s cell) rows → (shown_by (book_shape b) rows r s cell ≡ counter_of b r s cell) ⊎ AllByRecursion (λ q. stands_at q r s ≡ false) rows
shown_or_absent b [] r s cell all = inr tt
shown_or_absent b (p ∷ ps) r s cell all =
    shown_first b p ps r s cell (stands_at p r s) refl all.0 (shown_or_absent b ps r s cell all.1)

-- outside the layout there is nothing, as at the start
start_past_sites : (sites : ℕ) (it : RecordState) (s : ℕ) (cell : Cell) → IsRecord sites it → sites ≤ s → counter_in (row_in it s) cell ≡ start_in it s cell
start_past_sites sites it s (Out j) is past =
    let none = grant_past it.seats.matrix s is.seats.matrix (omega (arith, is.seat_sites)) in
    entry_past it.seats.matrix s j (omega (arith, is.seat_sites)) ∙ (rw none (sym (same_either (j == s) 0)))
start_past_sites sites it s Taken is past = get_or_past it.seats.taken s 0 (omega (arith, is.seats.size, is.seat_sites))
start_past_sites sites it s Ann is past = get_or_past it.notices.announced s 0 (omega (arith, is.notice_sites))
start_past_sites sites it s Fin is past =
    get_or_past it.notices.finished s 0 (omega (arith, is.notice_sites, is.notices.same_length))

start_nowhere : (s : ℕ) (cell : Cell) → counter_in (row_in nothing_known s) cell ≡ start_in nothing_known s cell
start_nowhere s (Out j) = grind (arith, nat_tests)
start_nowhere s Taken = refl
start_nowhere s Ann = refl
start_nowhere s Fin = refl

-- where no row that is told stands, the book is as it was at the start
start_where_absent : (b : BookState) (r s : ℕ) (cell : Cell) → IsBook b → AllByRecursion (λ q. stands_at q r s ≡ false) (all_moved (book_shape b) (counter_of b)) → counter_of b r s cell ≡ start_counter (book_shape b) r s cell
start_where_absent b r s cell book absent = at_place (cases_lt r (length b.records)) (cases_lt s b.sites)
  where
    -- past the sites a row has no counter, as at the start
    beyond : (j : ℕ) → b.sites ≤ j → r < length b.records → s < b.sites → counter_of b r s (Out j) ≡ start_counter (book_shape b) r s (Out j)
    beyond j past in_records in_sites =
        let is = book.records r in_records in
        let width = is.seats.matrix.square s (omega (arith, is.seat_sites)) in
        get_or_past (row_of (record_at b r).seats.matrix s) j 0 (omega (arith, width, is.seat_sites)) ∙ rw (ne_eqb j s (omega arith)) refl

    still : r < length b.records → s < b.sites → has_moved (book_shape b) (counter_of b) r s ≡ false → (c : Cell) → counter_of b r s c ≡ start_counter (book_shape b) r s c
    still in_records in_sites e (Out j) = at_site (cases_lt j b.sites)
      where
        at_site : (j < b.sites) ⊎ (b.sites ≤ j) → counter_of b r s (Out j) ≡ start_counter (book_shape b) r s (Out j)
        at_site (inl below) = still_at_start (book_shape b) (counter_of b) r s (Out j) e (λ k same. let here : j ≡ k = cc in omega arith)
        at_site (inr past) = beyond j past in_records in_sites
    still in_records in_sites e Taken = still_at_start (book_shape b) (counter_of b) r s Taken e (λ k same. cc)
    still in_records in_sites e Ann = still_at_start (book_shape b) (counter_of b) r s Ann e (λ k same. cc)
    still in_records in_sites e Fin = still_at_start (book_shape b) (counter_of b) r s Fin e (λ k same. cc)

    by_test : (t : Bool) → has_moved (book_shape b) (counter_of b) r s ≡ t → r < length b.records → s < b.sites → counter_of b r s cell ≡ start_counter (book_shape b) r s cell
    by_test false e in_records in_sites = still in_records in_sites e cell
    by_test true e in_records in_sites =
        let there = is_told (book_shape b) (counter_of b) (λ q. stands_at q r s ≡ false) r s absent (omega (arith, length-map b.records shape_in)) in_sites e in
        absurd (false≢true (sym there ∙ stands_here r s))

    at_place : (r < length b.records) ⊎ (length b.records ≤ r) → (s < b.sites) ⊎ (b.sites ≤ s) → counter_of b r s cell ≡ start_counter (book_shape b) r s cell
    at_place (inl in_records) (inl in_sites) =
        by_test (has_moved (book_shape b) (counter_of b) r s) refl in_records in_sites
    at_place (inl in_records) (inr past) =
        start_past_sites b.sites (record_at b r) s cell (book.records r in_records) past ∙ sym (start_in-record b.sites b.records r s cell)
    at_place (inr past) site =
        ap (λ (it : RecordState). counter_in (row_in it s) cell) none ∙ (start_nowhere s cell ∙ (ap (λ (it : RecordState). start_in it s cell) (sym none) ∙ sym (start_in-record b.sites b.records r s cell)))
      where
        none : record_at b r ≡ nothing_known
        none = get_or_past b.records r nothing_known past

pub shown_by-snapshot : (b : BookState) (r s : ℕ) (cell : Cell) → IsBook b → shown_by (book_shape b) (all_moved (book_shape b) (counter_of b)) r s cell ≡ counter_of b r s cell
shown_by-snapshot b r s cell book =
    at_place (shown_or_absent b rows r s cell (each_row b (λ p. counter_in (counters_of p) cell ≡ counter_of b p.r p.s cell) book (λ q t in_records in_sites. refl)))
  where
    rows : List Row
    rows = all_moved (book_shape b) (counter_of b)

    at_place : (shown_by (book_shape b) rows r s cell ≡ counter_of b r s cell) ⊎ AllByRecursion (λ q. stands_at q r s ≡ false) rows → shown_by (book_shape b) rows r s cell ≡ counter_of b r s cell
    at_place (inl shown) = shown
    at_place (inr absent) =
        shown_by-absent (book_shape b) rows r s cell absent ∙ sym (start_where_absent b r s cell book absent)

pub RowsName-snapshot : (b : BookState) (r s : ℕ) (cell : Cell) (k : ℕ) → IsBook b → RowsName (book_shape b) (all_moved (book_shape b) (counter_of b)) r s cell k ↔ Names b r s cell k
RowsName-snapshot b r s cell k book = units-from_same _ _ (shown_by-snapshot b r s cell book) k

-- ---- a record as the code reads it

-- the row that is made of a record's counters
pub told_row-read : (b : BookState) (k r s : ℕ) (it : RecordState) (out : List ℕ) (taken ann fin : ℕ) → IsBook b → k ≡ r → r < length b.records → s < b.sites → it ≡ get_or b.records k it → out ≡ row_of it.seats.matrix s → taken ≡ get_or it.seats.taken s 0 → ann ≡ get_or it.notices.announced s 0 → fin ≡ get_or it.notices.finished s 0
    → ◌≡◌ {A = Row} (record { r = r; s = s; out = out; taken = taken; ann = ann; fin = fin }) (told_row b.sites (counter_of b) r s)
told_row-read b k r s it out taken ann fin book at_r inside site read at_out at_taken at_ann at_fin =
    (λ i. record { r = r; s = s; out = at_out i; taken = at_taken i; ann = at_ann i; fin = at_fin i })
    ∙ (ap (λ (x : RecordState). row_of_record x) there ∙ sym (told_row-book b r s book inside site))
  where
    row_of_record : RecordState → Row
    row_of_record x =
        let row = row_in x s in record { r = r; s = s; out = row.out; taken = row.taken; ann = row.ann; fin = row.fin }

    there : it ≡ record_at b r
    there = read_record b k it (omega arith) read ∙ ap (record_at b) at_r

-- which counters of a record have left their start, by kind
moved_cells : (b : BookState) (r s : ℕ) (it : RecordState) → it ≡ record_at b r
    → has_moved (book_shape b) (counter_of b) r s
    ≡ (ltb 0 (total b.sites (λ j. one_if (not (eqb (entry it.seats.matrix s j) (start_in it s (Out j)))))) || (not (eqb (get_or it.seats.taken s 0) 0) || (not (eqb (get_or it.notices.announced s 0) 0) || not (eqb (get_or it.notices.finished s 0) 0))))
moved_cells b r s it there =
    ap (λ (test : Cell → Bool). ltb 0 (number_of_cells b.sites test)) (λ i cell. each cell i)
    ∙ some_of_four (total b.sites (λ j. one_if (moved (Out j)))) (moved Taken) (moved Ann) (moved Fin)
  where
    moved : Cell → Bool
    moved cell = not (eqb (counter_in (row_in it s) cell) (start_in it s cell))

    each : (cell : Cell) → not (eqb (counter_of b r s cell) (start_counter (book_shape b) r s cell)) ≡ moved cell
    each cell =
        ap (λ n. not (eqb (counter_of b r s cell) n)) (start_in-record b.sites b.records r s cell)
        ∙ ap (λ (x : RecordState). not (eqb (counter_in (row_in x s) cell) (start_in x s cell))) (sym there)

or_true : (a : Bool) → (a || true) ≡ true
or_true true = refl
or_true false = refl

or_false : (a : Bool) → (a || false) ≡ a
or_false true = refl
or_false false = refl

pub moved_by_counts : (b : BookState) (k r s : ℕ) (it : RecordState) (counts : Bool) → k ≡ r → r < length b.records → it ≡ get_or b.records k it → counts ≡ (not (eqb (get_or it.seats.taken s 0) 0) || (not (eqb (get_or it.notices.announced s 0) 0) || not (eqb (get_or it.notices.finished s 0) 0))) → counts ≡ true → counts ≡ has_moved (book_shape b) (counter_of b) r s
moved_by_counts b k r s it counts at_r inside read are some =
    some
    ∙ sym (moved_cells b r s it (read_record b k it (omega arith) read ∙ ap (record_at b) at_r) ∙ (ap (λ t. rights || t) (sym are ∙ some) ∙ or_true rights))
  where
    rights : Bool
    rights = ltb 0 (total b.sites (λ j. one_if (not (eqb (entry it.seats.matrix s j) (start_in it s (Out j))))))

pub moved_by_rights : (b : BookState) (k r s : ℕ) (it : RecordState) (counts rights : Bool) → k ≡ r → r < length b.records → it ≡ get_or b.records k it → counts ≡ (not (eqb (get_or it.seats.taken s 0) 0) || (not (eqb (get_or it.notices.announced s 0) 0) || not (eqb (get_or it.notices.finished s 0) 0))) → counts ≡ false → rights ≡ ltb 0 (total b.sites (λ j. one_if (not (eqb (entry it.seats.matrix s j) (start_in it s (Out j)))))) → rights ≡ has_moved (book_shape b) (counter_of b) r s
moved_by_rights b k r s it counts rights at_r inside read are none is =
    is
    ∙ sym (moved_cells b r s it (read_record b k it (omega arith) read ∙ ap (record_at b) at_r) ∙ (ap (λ t. sent || t) (sym are ∙ none) ∙ or_false sent))
  where
    sent : Bool
    sent = ltb 0 (total b.sites (λ j. one_if (not (eqb (entry it.seats.matrix s j) (start_in it s (Out j))))))
