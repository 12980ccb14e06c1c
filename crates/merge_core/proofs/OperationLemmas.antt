-- How the operations on seats and notices change the counters of a record.
use Rattle.std.proofs.Common.{Result, Ok, Err, MatchResult, OnOk, ◌≡◌, ◌≢◌, ℕ, ◌+◌, ◌<◌, ◌≤◌, ◌⊎◌, inl, inr, Bool, true, false, ◌&&◌, ◌==◌, cond, List, [], length, get_or, set, slice_index, refl, ap, ◌∙◌, arith, eq-eqb}
use Rattle.std.proofs.lemmas.List.{get_or-set_same, get_or-set_other, get_or_past}
use Rattle.std.proofs.lemmas.Bool.{cases_eq, cases_lt, ne_eqb}
use Rattle.rights_matrix.specs.Matrix.{MatrixState, site_count, row_of, entry, raised}
use Rattle.seat_rows.specs.Seats.{SeatState, after_take, after_raise, IsSeatState}
use Rattle.writer_notices.specs.Notices.{NoticeState, announced_at, finished_at, IsNotices, IsOpen}
use Rattle.merge_core.specs.declared.cell.Cell.{Cell}
use Rattle.merge_core.specs.declared.cell.Cell.TheVariants.{Out, Taken, Ann, Fin}
use Rattle.merge_core.specs.declared.record.RecordState.{RecordState}
use Rattle.merge_core.specs.Rows.{counter_in}
use Rattle.merge_core.specs.Book.{row_in, IsRecord}
use Rattle.merge_core.specs.Changes.{same_cell}
use Rattle.merge_core.proofs.BookLemmas.{RaisesIn}

-- nothing is added where the test fails
unchanged : (x by : ℕ) (a : Bool) → x ≡ x + cond (a && false) by 0
unchanged x by true = omega arith
unchanged x by false = omega arith

-- a list of counters of which one is higher
bumped : (xs : List ℕ) (i by t : ℕ) → i < length xs → get_or (set xs i (get_or xs i 0 + by)) t 0 ≡ get_or xs t 0 + cond ((t == i) && true) by 0
bumped xs i by t below = at_place (cases_eq t i)
  where
    at_place : (t ≡ i) ⊎ (t ≢ i) → get_or (set xs i (get_or xs i 0 + by)) t 0 ≡ get_or xs t 0 + cond ((t == i) && true) by 0
    at_place (inl same) = rw (same, get_or-set_same xs i (get_or xs i 0 + by) 0 below, eq-eqb i i refl) refl
    at_place (inr apart) = rw (get_or-set_other xs i t (get_or xs i 0 + by) 0 apart, ne_eqb t i apart) (omega arith)

pub RaisesIn-take : (st : RecordState) (i w : ℕ) → i < length st.seats.taken → RaisesIn st (record { seats = after_take st.seats i w; notices = st.notices }) i Taken w
RaisesIn-take st i w below = record { shape = refl; counters = at_cell }
  where
    at_cell : (t : ℕ) (c : Cell) → counter_in (row_in (record { seats = after_take st.seats i w; notices = st.notices }) t) c ≡ counter_in (row_in st t) c + cond ((t == i) && same_cell c Taken) w 0
    at_cell t (Out j) = unchanged _ w (t == i)
    at_cell t Taken = bumped st.seats.taken i w t below
    at_cell t Ann = unchanged _ w (t == i)
    at_cell t Fin = unchanged _ w (t == i)

-- an entry of a matrix of which one is higher
raised_entry : (m : MatrixState) (i j n t c : ℕ) → i < site_count m → j < length (row_of m i) → slice_index (row_of (raised m i j n) t) c ≡ slice_index (row_of m t) c + cond ((t == i) && (c == j)) n 0
raised_entry m i j n t c below within = at_row (cases_eq t i)
  where
    new_row : List ℕ
    new_row = set (row_of m i) j (entry m i j + n)

    at_column : (c ≡ j) ⊎ (c ≢ j) → get_or (set (row_of m i) j (entry m i j + n)) c 0 ≡ get_or (row_of m i) c 0 + cond (c == j) n 0
    at_column (inl same) = rw (same, get_or-set_same (row_of m i) j (entry m i j + n) 0 within, eq-eqb j j refl) refl
    at_column (inr apart) = rw (get_or-set_other (row_of m i) j c (entry m i j + n) 0 apart, ne_eqb c j apart) (omega arith)

    at_row : (t ≡ i) ⊎ (t ≢ i) → slice_index (row_of (raised m i j n) t) c ≡ slice_index (row_of m t) c + cond ((t == i) && (c == j)) n 0
    at_row (inl same) = rw (same, get_or-set_same m.rows i (set (row_of m i) j (entry m i j + n)) [] below, eq-eqb i i refl) (at_column (cases_eq c j))
    at_row (inr apart) = rw (get_or-set_other m.rows i t (set (row_of m i) j (entry m i j + n)) [] apart, ne_eqb t i apart) (omega arith)

pub RaisesIn-raise : (st : RecordState) (i j n : ℕ) → i < site_count st.seats.matrix → j < length (row_of st.seats.matrix i) → RaisesIn st (record { seats = after_raise st.seats i j n; notices = st.notices }) i (Out j) n
RaisesIn-raise st i j n below within = record { shape = refl; counters = at_cell }
  where
    at_cell : (t : ℕ) (c : Cell) → counter_in (row_in (record { seats = after_raise st.seats i j n; notices = st.notices }) t) c ≡ counter_in (row_in st t) c + cond ((t == i) && same_cell c (Out j)) n 0
    at_cell t (Out c) = raised_entry st.seats.matrix i j n t c below within
    at_cell t Taken = unchanged _ n (t == i)
    at_cell t Ann = unchanged _ n (t == i)
    at_cell t Fin = unchanged _ n (t == i)

pub RaisesIn-announce : (st : RecordState) (i : ℕ) → i < length st.notices.announced → RaisesIn st (record { seats = st.seats; notices = announced_at st.notices i }) i Ann 1
RaisesIn-announce st i below = record { shape = refl; counters = at_cell }
  where
    at_cell : (t : ℕ) (c : Cell) → counter_in (row_in (record { seats = st.seats; notices = announced_at st.notices i }) t) c ≡ counter_in (row_in st t) c + cond ((t == i) && same_cell c Ann) 1 0
    at_cell t (Out j) = unchanged _ 1 (t == i)
    at_cell t Taken = unchanged _ 1 (t == i)
    at_cell t Ann = bumped st.notices.announced i 1 t below
    at_cell t Fin = unchanged _ 1 (t == i)

pub RaisesIn-finish : (st : RecordState) (i : ℕ) → i < length st.notices.finished → RaisesIn st (record { seats = st.seats; notices = finished_at st.notices i }) i Fin 1
RaisesIn-finish st i below = record { shape = refl; counters = at_cell }
  where
    at_cell : (t : ℕ) (c : Cell) → counter_in (row_in (record { seats = st.seats; notices = finished_at st.notices i }) t) c ≡ counter_in (row_in st t) c + cond ((t == i) && same_cell c Fin) 1 0
    at_cell t (Out j) = unchanged _ 1 (t == i)
    at_cell t Taken = unchanged _ 1 (t == i)
    at_cell t Ann = unchanged _ 1 (t == i)
    at_cell t Fin = bumped st.notices.finished i 1 t below

-- a record with other seats, or other notices
pub IsRecord-seats : (sites : ℕ) (it : RecordState) (seats : SeatState) → IsRecord sites it → IsSeatState seats → site_count seats.matrix ≡ site_count it.seats.matrix → IsRecord sites (record { seats = seats; notices = it.notices })
IsRecord-seats sites it seats is valid same =
    record { seats = valid; notices = is.notices; seat_sites = same ∙ is.seat_sites; notice_sites = is.notice_sites }

pub IsRecord-notices : (sites : ℕ) (it : RecordState) (notices : NoticeState) → IsRecord sites it → IsNotices notices → length notices.announced ≡ length it.notices.announced → IsRecord sites (record { seats = it.seats; notices = notices })
IsRecord-notices sites it notices is valid same =
    record { seats = is.seats; notices = valid; seat_sites = is.seat_sites; notice_sites = same ∙ is.notice_sites }

-- what an operation that may be refused leaves: a number that neither outcome changes, and a fact of its success
pub either_way : {T E X : Type 0} (f : X → ℕ) (r : Result T E) (new changed old : X) → MatchResult r (λ _. new ≡ changed) (λ _. new ≡ old) → f changed ≡ f old → f new ≡ f old
either_way f (Ok x) new changed old h same = ap f h ∙ same
either_way f (Err e) new changed old h same = ap f h

pub on_success : {T E X : Type 0} (r : Result T E) (new changed old : X) (P : Type 0) → MatchResult r (λ _. new ≡ changed) (λ _. new ≡ old) → (new ≡ changed → P) → OnOk r P
on_success (Ok x) new changed old P h then_holds = then_holds h
on_success (Err e) new changed old P h then_holds = tt

-- a site with an unfinished writer is one of the sites
pub open_inside : (n : NoticeState) (s : ℕ) → IsNotices n → IsOpen n s → s < length n.finished
open_inside n s is open_there = at_place (cases_lt s (length n.announced))
  where
    at_place : (s < length n.announced) ⊎ (length n.announced ≤ s) → s < length n.finished
    at_place (inl below) = omega (arith, is.same_length)
    at_place (inr past) = omega (arith, get_or_past n.announced s 0 past)
