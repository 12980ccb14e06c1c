-- How many counters rise, counted on the way: where a row is joined that was as it was at first, the counters
-- that rise then are counted once more, and no other.
use Rattle.std.proofs.Common.{◌≡◌, ℕ, zero, suc, ◌+◌, ◌<◌, cond, ltb, max, List, [], ◌∷◌, length, get_or, set, refl, ap, ◌∙◌, arith, slice_index}
use Rattle.grow_counters.specs.Counts.{maxima, rise_count}
use Rattle.grow_counters.proofs.CountsLemmas.{rise_count-same, rise_count-set}
use Rattle.rights_matrix.specs.Matrix.{site_count, row_of}
use Rattle.rights_matrix.proofs.JoinLemmas.{rise_counts-onward, rise_counts-same}
use Rattle.seat_rows.specs.Seats.{taken_at}
use Rattle.merge_core.specs.declared.delta.Row.{Row}
use Rattle.merge_core.specs.declared.record.RecordState.{RecordState}
use Rattle.merge_core.specs.Book.{nothing_known, record_rises, records_rise}
use Rattle.merge_core.specs.Joined.{joined_record}

-- one counter
rise_count-onward : (xs ys : List ℕ) (i v : ℕ) → i < length xs → i < length ys → get_or ys i 0 ≡ get_or xs i 0 → rise_count xs (set ys i v) ≡ rise_count xs ys + rise_count ys (set ys i v)
rise_count-onward xs ys i v in_xs in_ys same =
    let alone : rise_count ys (set ys i v) ≡ cond (ltb (get_or ys i 0) v) 1 0 =
    rise_count-set ys ys i v in_ys in_ys refl ∙ ap (λ n. n + cond (ltb (get_or ys i 0) v) 1 0) (rise_count-same ys) ∙ omega arith in
    rw (alone, same) (rise_count-set xs ys i v in_xs in_ys same)

-- an agreeing row: both records show the same at a site
pub record AgreeAt (x y : RecordState) (s : ℕ) : Type 0 where
  pub out : row_of y.seats.matrix s ≡ row_of x.seats.matrix s
  pub taken : slice_index y.seats.taken s ≡ slice_index x.seats.taken s
  pub ann : slice_index y.notices.announced s ≡ slice_index x.notices.announced s
  pub fin : slice_index y.notices.finished s ≡ slice_index x.notices.finished s

-- a site has its places in all lists of a record
pub record HasSite (x : RecordState) (s : ℕ) : Type 0 where
  pub in_rows : s < site_count x.seats.matrix
  pub in_taken : s < length x.seats.taken
  pub in_announced : s < length x.notices.announced
  pub in_finished : s < length x.notices.finished

pub record_rises-onward : (x y : RecordState) (p : Row) → HasSite x p.s → HasSite y p.s → AgreeAt x y p.s → record_rises x (joined_record y p) ≡ record_rises x y + record_rises y (joined_record y p)
record_rises-onward x y p in_x in_y agree =
    let rows = rise_counts-onward x.seats.matrix.rows y.seats.matrix.rows p.s (maxima (row_of y.seats.matrix p.s) p.out) in_x.in_rows in_y.in_rows agree.out in
    let takes = rise_count-onward x.seats.taken y.seats.taken p.s (max (taken_at y.seats p.s) p.taken) in_x.in_taken in_y.in_taken agree.taken in
    let anns = rise_count-onward x.notices.announced y.notices.announced p.s (max (slice_index y.notices.announced p.s) p.ann) in_x.in_announced in_y.in_announced agree.ann in
    let fins = rise_count-onward x.notices.finished y.notices.finished p.s (max (slice_index y.notices.finished p.s) p.fin) in_x.in_finished in_y.in_finished agree.fin in
    omega arith

pub record_rises-same : (x : RecordState) → record_rises x x ≡ 0
record_rises-same x =
    omega (arith, rise_counts-same x.seats.matrix.rows, rise_count-same x.seats.taken, rise_count-same x.notices.announced, rise_count-same x.notices.finished)

-- all records
pub records_rise-same : (xs : List RecordState) → records_rise xs xs ≡ 0
records_rise-same [] = refl
records_rise-same (x ∷ xs) = omega (arith, record_rises-same x, records_rise-same xs)

pub records_rise-onward : (xs ys : List RecordState) (r : ℕ) (st : RecordState) → r < length xs → r < length ys → record_rises (get_or xs r nothing_known) st ≡ record_rises (get_or xs r nothing_known) (get_or ys r nothing_known) + record_rises (get_or ys r nothing_known) st → records_rise xs (set ys r st) ≡ records_rise xs ys + record_rises (get_or ys r nothing_known) st
records_rise-onward [] ys r st in_xs in_ys onward = absurd (omega arith)
records_rise-onward (x ∷ xs) [] r st in_xs in_ys onward = absurd (omega arith)
records_rise-onward (x ∷ xs) (y ∷ ys) zero st in_xs in_ys onward = omega arith
records_rise-onward (x ∷ xs) (y ∷ ys) (suc r) st in_xs in_ys onward =
    let rest = records_rise-onward xs ys r st (omega arith) (omega arith) onward in omega arith

-- one record written over itself
pub records_rise-written : (ys : List RecordState) (r : ℕ) (st : RecordState) → r < length ys → records_rise ys (set ys r st) ≡ record_rises (get_or ys r nothing_known) st
records_rise-written ys r st inside =
    let alone = record_rises-same (get_or ys r nothing_known) in
    omega (arith, records_rise-onward ys ys r st inside inside (omega arith), records_rise-same ys)
