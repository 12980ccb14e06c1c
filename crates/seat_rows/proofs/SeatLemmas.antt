-- Seats, site by site.
use Rattle.std.proofs.Common.{◌≡◌, ◌≢◌, ℕ, ◌+◌, ◌-◌, ◌<◌, ◌≤◌, ◌⊎◌, inl, inr, Bool, true, false, cond, ltb, List, [], length, get_or, set, take, max, refl, sym, ap, ◌∙◌, arith}
use Rattle.std.proofs.lemmas.List.{get_or-set_same, get_or-set_other, length-set, set-get_or, get_or-take, get_or_past, length-take-le}
use Rattle.std.proofs.lemmas.Grind.{same_number_lists}
use Rattle.std.proofs.lemmas.Bool.{cases_eq, cases_lt}
use mir.Val.{bool_byte}
use Rattle.grow_counters.specs.Counts.{counter_limit, maxima, rise_count, IsWithin}
use Rattle.grow_counters.proofs.CountsLemmas.{length-maxima, get_or-maxima}
use Rattle.rights_matrix.specs.Joined.{joined, joined_at}
use Rattle.rights_matrix.specs.Matrix.{MatrixState, site_count, row_of, grant, entry, raised, IsMatrix, SameShape}
use Rattle.rights_matrix.proofs.EntryLemmas.{entry-joined, entry-joined_at, entry-joined_at_other}
use Rattle.rights_matrix.proofs.JoinLemmas.{IsMatrix-joined, IsMatrix-joined_at, length-joined_rows, joined_at-more, rise_counts-more}
use Rattle.rights_matrix.proofs.RightsLemmas.{HasRights-joined_at}
use Rattle.rights_matrix.proofs.StartLemmas.{zero_row, HasRights-start}
use Rattle.seat_rows.specs.Seats.{SeatState, taken_at, returned_at, HasSeatRights, IsSeatState, IsValidSeatRow, start_seats, after_take, after_raise, joined_seats, joined_seats_at, seat_rises}

abbrev seats_of : MatrixState → List ℕ → SeatState
seats_of m t = record { matrix = m; taken = t }

-- two copies of the seats of one record have a join
pub IsSeatState-joined : (a b : SeatState) → IsSeatState a → IsSeatState b → SameShape a.matrix b.matrix → IsSeatState (joined_seats a b)
IsSeatState-joined a b in_a in_b same = record {
  matrix = IsMatrix-joined a.matrix b.matrix in_a.matrix in_b.matrix same;
  size = length-maxima a.taken b.taken ∙ (in_a.size ∙ sym (length-joined_rows a.matrix.rows b.matrix.rows));
  returned = λ i below. returned i (omega (arith, below, rows));
  limit = λ i below. limit i (omega (arith, below, rows));
}
  where
    rows : length (joined a.matrix b.matrix).rows ≡ length a.matrix.rows
    rows = length-joined_rows a.matrix.rows b.matrix.rows

    taken : (i : ℕ) → get_or (maxima a.taken b.taken) i 0 ≡ max (taken_at a i) (taken_at b i)
    taken i = get_or-maxima a.taken b.taken i (omega (arith, in_a.size, in_b.size, same.sites))

    grants : (i : ℕ) → grant b.matrix i ≡ grant a.matrix i
    grants i = rw (same.home, same.seats) refl

    returned : (i : ℕ) → i < site_count a.matrix → returned_at (joined_seats a b) i ≤ taken_at (joined_seats a b) i
    returned i below =
        let own = entry-joined a.matrix b.matrix i i in_a.matrix in_b.matrix same in
        let by_a = in_a.returned i below in
        let by_b = in_b.returned i (omega (arith, same.sites)) in
        omega (arith, own, taken i, grants i, by_a, by_b)

    limit : (i : ℕ) → i < site_count a.matrix → taken_at (joined_seats a b) i ≤ counter_limit
    limit i below =
        let by_a = in_a.limit i below in
        let by_b = in_b.limit i (omega (arith, same.sites)) in
        omega (arith, taken i, by_a, by_b)

-- a valid row of one site may be joined to the seats
pub IsSeatState-joined_at : (st : SeatState) (s taken : ℕ) (row : List ℕ) → IsSeatState st → s < site_count st.matrix → length row ≤ site_count st.matrix → IsValidSeatRow st.matrix s row taken → IsSeatState (joined_seats_at st s row taken)
IsSeatState-joined_at st s taken row h inside fits valid = record {
  matrix = IsMatrix-joined_at st.matrix s row h.matrix inside fits valid.in_matrix;
  size = length-set st.taken s _ ∙ (h.size ∙ sym (length-set st.matrix.rows s _));
  returned = λ i below. returned i (omega (arith, below, rows)) (cases_eq i s);
  limit = λ i below. limit i (omega (arith, below, rows)) (cases_eq i s);
}
  where
    rows : length (joined_at st.matrix s row).rows ≡ length st.matrix.rows
    rows = length-set st.matrix.rows s _

    here : taken_at (joined_seats_at st s row taken) s ≡ max (taken_at st s) taken
    here = get_or-set_same st.taken s _ 0 (omega (arith, h.size))

    there : (i : ℕ) → i ≢ s → taken_at (joined_seats_at st s row taken) i ≡ taken_at st i
    there i other = get_or-set_other st.taken s i _ 0 other

    returned : (i : ℕ) → i < site_count st.matrix → (i ≡ s) ⊎ (i ≢ s) → returned_at (joined_seats_at st s row taken) i ≤ taken_at (joined_seats_at st s row taken) i
    returned i below (inl same) =
        let own = entry-joined_at st.matrix s s row h.matrix inside fits in
        let before = h.returned s inside in
        let heard = valid.returned in
        rw same (omega (arith, own, here, before, heard))
    returned i below (inr other) =
        let own = entry-joined_at_other st.matrix s i i row other in
        let before = h.returned i below in
        omega (arith, own, there i other, before)

    limit : (i : ℕ) → i < site_count st.matrix → (i ≡ s) ⊎ (i ≢ s) → taken_at (joined_seats_at st s row taken) i ≤ counter_limit
    limit i below (inl same) =
        let before = h.limit s inside in
        let heard = valid.limit in
        rw same (omega (arith, here, before, heard))
    limit i below (inr other) = let before = h.limit i below in omega (arith, there i other, before)

-- for the fields of seats that were joined
pub join_keeps : (a0 a b0 b : SeatState) (matrix : MatrixState) (taken : List ℕ) → a0 ≡ a → b0 ≡ b → IsSeatState a0 → IsSeatState b0 → SameShape a.matrix b.matrix → matrix ≡ joined a0.matrix b0.matrix → taken ≡ maxima a0.taken b0.taken → IsSeatState (record { matrix = matrix; taken = taken })
join_keeps a0 a b0 b matrix taken is_a is_b in_a in_b same is_matrix is_taken =
    let same' : SameShape a0.matrix b0.matrix = rw (is_a, is_b) same in
    rw (is_matrix, is_taken) (IsSeatState-joined a0 b0 in_a in_b same')

-- the counts after a join, site by site
pub taken_at-joined : (a b : SeatState) (i : ℕ) → IsSeatState a → IsSeatState b → SameShape a.matrix b.matrix → taken_at (joined_seats a b) i ≡ max (taken_at a i) (taken_at b i)
taken_at-joined a b i in_a in_b same =
    get_or-maxima a.taken b.taken i (omega (arith, in_a.size, in_b.size, same.sites))

pub taken_at-joined_at : (st : SeatState) (s taken : ℕ) (row : List ℕ) → IsSeatState st → s < site_count st.matrix → taken_at (joined_seats_at st s row taken) s ≡ max (taken_at st s) taken
taken_at-joined_at st s taken row h inside = get_or-set_same st.taken s _ 0 (omega (arith, h.size))

pub taken_at-joined_at_other : (st : SeatState) (s i taken : ℕ) (row : List ℕ) → i ≢ s → taken_at (joined_seats_at st s row taken) i ≡ taken_at st i
taken_at-joined_at_other st s i taken row other = get_or-set_other st.taken s i _ 0 other

-- and after seats were taken
pub taken_at-after_take : (st : SeatState) (i w : ℕ) → IsSeatState st → i < site_count st.matrix → taken_at (after_take st i w) i ≡ taken_at st i + w
taken_at-after_take st i w h inside = get_or-set_same st.taken i _ 0 (omega (arith, h.size))

pub taken_at-after_take_other : (st : SeatState) (i w k : ℕ) → k ≢ i → taken_at (after_take st i w) k ≡ taken_at st k
taken_at-after_take_other st i w k other = get_or-set_other st.taken i k _ 0 other

-- at the start nobody's rights are negative
pub HasSeatRights-start : (n home seats i : ℕ) → home < n → HasSeatRights (start_seats n home seats) i
HasSeatRights-start n home seats i inside =
    let none : taken_at (start_seats n home seats) i ≡ 0 = zero_row n i in
    let has = HasRights-start n home seats i inside in
    omega (arith, none, has)

-- what is heard of another site leaves this site's rights no negative number
pub HasSeatRights-joined_at : (st : SeatState) (s i taken : ℕ) (row : List ℕ) → IsSeatState st → s < site_count st.matrix → length row ≤ site_count st.matrix → i ≢ s → HasSeatRights st i → HasSeatRights (joined_seats_at st s row taken) i
HasSeatRights-joined_at st s i taken row h inside fits other has =
    let kept = HasRights-joined_at st.matrix s i (taken_at st i) row h.matrix inside fits other has in
    let same = taken_at-joined_at_other st s i taken row other in
    omega (arith, kept, same)

-- A row and a count joined so far, and one counter more.

pub joined_seats_at-more : (st now : SeatState) (s j by taken : ℕ) (row : List ℕ) → IsMatrix st.matrix → s < site_count st.matrix → j < length row → length row ≤ site_count st.matrix → now ≡ joined_seats_at st s (take j row) taken → by ≡ get_or row j 0 - entry now.matrix s j → after_raise now s j by ≡ joined_seats_at st s (take (j + 1) row) taken
joined_seats_at-more st now s j by taken row h inside in_row fits is_now is_by =
    let matrix : raised now.matrix s j by ≡ joined_at st.matrix s (take (j + 1) row) = joined_at-more st.matrix now.matrix s j by row h inside in_row fits (ap (λ (x : SeatState). x.matrix) is_now) is_by in
    let counts : now.taken ≡ set st.taken s (max (taken_at st s) taken) = ap (λ (x : SeatState). x.taken) is_now in
    ap (λ (m : MatrixState). seats_of m now.taken) matrix ∙ ap (λ (t : List ℕ). seats_of (joined_at st.matrix s (take (j + 1) row)) t) counts

pub seat_rises-more : (st now : SeatState) (s j by taken : ℕ) (row : List ℕ) → IsMatrix st.matrix → s < site_count st.matrix → j < length row → length row ≤ site_count st.matrix → now ≡ joined_seats_at st s (take j row) taken → by ≡ get_or row j 0 - entry now.matrix s j → seat_rises st (joined_seats_at st s (take (j + 1) row) taken) ≡ seat_rises st now + cond (ltb 0 by) 1 0
seat_rises-more st now s j by taken row h inside in_row fits is_now is_by =
    let rises = rise_counts-more st.matrix now.matrix s j by row h inside in_row fits (ap (λ (x : SeatState). x.matrix) is_now) is_by in
    let counts : rise_count st.taken now.taken ≡ rise_count st.taken (set st.taken s (max (taken_at st s) taken)) = ap (λ (x : SeatState). rise_count st.taken x.taken) is_now in
    omega (arith, rises, counts)

-- a test counts as 1 or 0
pub bool_byte_is : (b : Bool) → (bool_byte b ≡ cond b 1 0) × (bool_byte b ≤ 1)
bool_byte_is true = (refl, omega arith)
bool_byte_is false = (refl, omega arith)

-- a row that is nowhere above the site's own changes nothing
maxima-within : (xs ys : List ℕ) → length ys ≤ length xs → IsWithin ys xs → maxima xs ys ≡ xs
maxima-within xs ys fits within =
    same_number_lists (maxima xs ys) xs (length-maxima xs ys) (λ k below. omega (arith, get_or-maxima xs ys k fits, within k))

joined_seats_at-within : (st now : SeatState) (s taken : ℕ) (row : List ℕ) → length row ≤ length (row_of st.matrix s) → IsWithin row (row_of st.matrix s)
    → now ≡ record st { taken = set st.taken s (max (taken_at st s) taken) } → now ≡ joined_seats_at st s row taken
joined_seats_at-within st now s taken row fits within is_now =
    is_now
    ∙ ap (λ (rows : List (List ℕ)). seats_of (record st.matrix { rows = rows }) (set st.taken s (max (taken_at st s) taken)))
    (sym (ap (set st.matrix.rows s) (maxima-within (row_of st.matrix s) row fits within) ∙ set-get_or st.matrix.rows s []))

-- counters that are nowhere above are still nowhere above where those behind them are left out
IsWithin-take : (xs ys : List ℕ) (first : ℕ) → first ≤ length xs → ((k : ℕ) → k < first → get_or xs k 0 ≤ get_or ys k 0) → IsWithin (take first xs) ys
IsWithin-take xs ys first fits before k = by_place (cases_lt k first)
  where
    by_place : (k < first) ⊎ (first ≤ k) → get_or (take first xs) k 0 ≤ get_or ys k 0
    by_place (inl below) = omega (arith, get_or-take first xs k 0 below, before k below)
    by_place (inr past) = omega (arith, get_or_past (take first xs) k 0 (omega (arith, length-take-le first xs fits, past)))

-- a row whose first counters are nowhere above the site's own is joined as far as these go
pub joined_seats_at-first : (st now : SeatState) (s first taken : ℕ) (row : List ℕ) → first ≤ length row → length row ≤ length (row_of st.matrix s)
    → ((k : ℕ) → k < first → get_or row k 0 ≤ get_or (row_of st.matrix s) k 0)
    → now ≡ record st { taken = set st.taken s (max (taken_at st s) taken) } → now ≡ joined_seats_at st s (take first row) taken
joined_seats_at-first st now s first taken row place fits before is_now =
    joined_seats_at-within st now s taken (take first row) (omega (arith, length-take-le first row place, place, fits)) (IsWithin-take row (row_of st.matrix s) first place before) is_now
