-- What a restart leaves of a record, and of a book.
use Rattle.std.proofs.Common.{◌≡◌, ◌≢◌, ℕ, zero, suc, ◌+◌, ◌<◌, ◌≤◌, ◌⊎◌, inl, inr, ◌==◌, ◌||◌, List, [], ◌∷◌, length, get_or, set, map, refl, sym, ap, ◌∙◌, subst, arith, if◌then◌else◌}
use Rattle.std.proofs.lemmas.Bool.{cases_eq, cases_lt, ne_eqb}
use Rattle.std.proofs.lemmas.Bool.Decides.{nat_tests}
use Rattle.std.proofs.lemmas.List.{get_or_past, get_or-set_same, get_or-set_other, length-set, get_or_default}
use Rattle.rights_matrix.specs.Matrix.{MatrixState, entry, SameShape}
use Rattle.rights_matrix.specs.Kept.{kept_entry}
use Rattle.seat_rows.specs.Seats.{taken_at, kept_taken, IsSeatState}
use Rattle.writer_notices.specs.Notices.{NoticeState, IsNotices}
use Rattle.merge_core.specs.declared.cell.Cell.{Cell}
use Rattle.merge_core.specs.declared.cell.Cell.TheVariants.{Out, Taken, Ann, Fin}
use Rattle.merge_core.specs.declared.record.RecordState.{RecordState}
use Rattle.merge_core.specs.Rows.{counter_in, start_counter}
use Rattle.merge_core.specs.Book.{nothing_known, row_in, shape_in, book_shape, IsRecord}
use Rattle.merge_core.specs.Changes.{keeps_counter, KeepsOwn}
use Rattle.merge_core.specs.Kept.{start_in, KeepsOwnIn}

-- the start of a cell of the matrix, read the other way round
kept_cell : (m : MatrixState) (site s j : ℕ) → kept_entry m site s j ≡ (if (s == site) || (j == site) then entry m s j else (if j == s then (if s == m.home then m.seats else 0) else 0))
kept_cell m site s j = at_place (cases_eq j s)
  where
    at_place : (j ≡ s) ⊎ (j ≢ s) → kept_entry m site s j ≡ (if (s == site) || (j == site) then entry m s j else (if j == s then (if s == m.home then m.seats else 0) else 0))
    at_place (inl same) = rw same refl
    at_place (inr apart) = rw (ne_eqb j s apart, ne_eqb s j (λ e. apart (sym e))) refl

-- the seats and notices of a record after a restart
pub KeepsOwnIn-kept : (site : ℕ) (old new : RecordState) → SameShape old.seats.matrix new.seats.matrix → ((i j : ℕ) → entry new.seats.matrix i j ≡ kept_entry old.seats.matrix site i j) → ((i : ℕ) → taken_at new.seats i ≡ kept_taken old.seats site i) → new.notices ≡ old.notices → KeepsOwnIn site old new
KeepsOwnIn-kept site old new same entries taken notices = record { shape = shapes; counters = at_cell }
  where
    shapes : shape_in new ≡ shape_in old
    shapes = rw (same.seats, same.home) refl

    at_cell : (s : ℕ) (cell : Cell) → counter_in (row_in new s) cell ≡ (if keeps_counter site s cell then counter_in (row_in old s) cell else start_in old s cell)
    at_cell s (Out j) = entries s j ∙ kept_cell old.seats.matrix site s j
    at_cell s Taken = taken s
    at_cell s Ann = ap (λ (n : NoticeState). get_or n.announced s 0) notices
    at_cell s Fin = ap (λ (n : NoticeState). get_or n.finished s 0) notices

pub IsRecord-kept : (sites site : ℕ) (old new : RecordState) → IsRecord sites old → SameShape old.seats.matrix new.seats.matrix → IsSeatState new.seats → new.notices ≡ old.notices → IsRecord sites new
IsRecord-kept sites site old new is same seats kept = record {
  seats = seats;
  notices = subst (λ (n : NoticeState). IsNotices n) (sym kept) is.notices;
  seat_sites = same.sites ∙ is.seat_sites;
  notice_sites = ap (λ (n : NoticeState). length n.announced) kept ∙ is.notice_sites;
}

-- nothing is kept where nothing is known
pub KeepsOwnIn-nothing : (site : ℕ) → KeepsOwnIn site nothing_known nothing_known
KeepsOwnIn-nothing site = record { shape = refl; counters = at_cell }
  where
    at_cell : (s : ℕ) (cell : Cell) → counter_in (row_in nothing_known s) cell ≡ (if keeps_counter site s cell then counter_in (row_in nothing_known s) cell else start_in nothing_known s cell)
    at_cell s (Out j) = grind (arith, nat_tests)
    at_cell s Taken = grind (arith, nat_tests)
    at_cell s Ann = grind (arith, nat_tests)
    at_cell s Fin = grind (arith, nat_tests)

-- the records below i after a restart, the others as they were
pub record IsKeptBelow (sites site i : ℕ) (old now : List RecordState) : Type 0 where
  pub size : length now ≡ length old
  pub kept : (k : ℕ) → k < i → KeepsOwnIn site (get_or old k nothing_known) (get_or now k nothing_known)
  pub waiting : (k : ℕ) → i ≤ k → get_or now k nothing_known ≡ get_or old k nothing_known
  pub valid : (k : ℕ) → k < length now → IsRecord sites (get_or now k nothing_known)

-- one record more
pub IsKeptBelow-step : (sites site i : ℕ) (old now : List RecordState) (had new : RecordState) → IsKeptBelow sites site i old now → i < length now → had ≡ get_or now i had → KeepsOwnIn site had new → IsRecord sites new → IsKeptBelow sites site (i + 1) old (set now i new)
IsKeptBelow-step sites site i old now had new h below read kept is = record {
  size = length-set now i new ∙ h.size;
  kept = λ k under. kept_at k under (cases_eq k i);
  waiting = λ k above. get_or-set_other now i k new nothing_known (omega arith) ∙ h.waiting k (omega arith);
  valid = λ k inside. valid_at k (omega (arith, length-set now i new)) (cases_eq k i);
}
  where
    had_is : had ≡ get_or old i nothing_known
    had_is = read ∙ (get_or_default now i had nothing_known below ∙ h.waiting i (omega arith))

    new_is : get_or (set now i new) i nothing_known ≡ new
    new_is = get_or-set_same now i new nothing_known below

    kept_at : (k : ℕ) → k < i + 1 → (k ≡ i) ⊎ (k ≢ i) → KeepsOwnIn site (get_or old k nothing_known) (get_or (set now i new) k nothing_known)
    kept_at k under (inl same) =
        rw (same, new_is) (subst (λ (x : RecordState). KeepsOwnIn site x new) had_is kept)
    kept_at k under (inr apart) = rw (get_or-set_other now i k new nothing_known apart) (h.kept k (omega arith))

    valid_at : (k : ℕ) → k < length now → (k ≡ i) ⊎ (k ≢ i) → IsRecord sites (get_or (set now i new) k nothing_known)
    valid_at k inside (inl same) = rw (same, new_is) is
    valid_at k inside (inr apart) = rw (get_or-set_other now i k new nothing_known apart) (h.valid k inside)

pub kept_everywhere : (sites site i : ℕ) (old now : List RecordState) → IsKeptBelow sites site i old now → length old ≤ i → (k : ℕ) → KeepsOwnIn site (get_or old k nothing_known) (get_or now k nothing_known)
kept_everywhere sites site i old now h all k = at_place (cases_lt k i)
  where
    at_place : (k < i) ⊎ (i ≤ k) → KeepsOwnIn site (get_or old k nothing_known) (get_or now k nothing_known)
    at_place (inl under) = h.kept k under
    at_place (inr past) =
        rw (get_or_past old k nothing_known (omega arith), get_or_past now k nothing_known (omega (arith, h.size))) (KeepsOwnIn-nothing site)

-- what a book's shape says of the start is what its record says
pub start_in-record : (sites : ℕ) (records : List RecordState) (r s : ℕ) (cell : Cell) → start_counter (book_shape (record { sites = sites; records = records })) r s cell ≡ start_in (get_or records r nothing_known) s cell
start_in-record sites [] r s (Out j) = refl
start_in-record sites [] r s Taken = refl
start_in-record sites [] r s Ann = refl
start_in-record sites [] r s Fin = refl
start_in-record sites (x ∷ xs) zero s (Out j) = refl
start_in-record sites (x ∷ xs) zero s Taken = refl
start_in-record sites (x ∷ xs) zero s Ann = refl
start_in-record sites (x ∷ xs) zero s Fin = refl
start_in-record sites (x ∷ xs) (suc r) s cell = start_in-record sites xs r s cell

-- records of the same shapes, one by one
same_shapes : (old new : List RecordState) → length new ≡ length old → ((k : ℕ) → shape_in (get_or new k nothing_known) ≡ shape_in (get_or old k nothing_known)) → map shape_in new ≡ map shape_in old
same_shapes [] [] size each = refl
same_shapes [] (y ∷ ys) size each = absurd (omega arith)
same_shapes (x ∷ xs) [] size each = absurd (omega arith)
same_shapes (x ∷ xs) (y ∷ ys) size each =
    let first : shape_in y ≡ shape_in x = each 0 in
    let rest = same_shapes xs ys (omega arith) (λ k. each (suc k)) in
    cc

-- a book is kept where each record is
pub KeepsOwn-records : (site sites : ℕ) (old new : List RecordState) → length new ≡ length old → ((k : ℕ) → KeepsOwnIn site (get_or old k nothing_known) (get_or new k nothing_known)) → KeepsOwn site (record { sites = sites; records = old }) (record { sites = sites; records = new })
KeepsOwn-records site sites old new size each = record {
  shape = rw (same_shapes old new size (λ k. (each k).shape)) refl;
  counters = λ r s cell. rw (start_in-record sites old r s cell) ((each r).counters s cell);
}
