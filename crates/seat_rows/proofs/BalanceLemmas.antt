-- The cached numbers: how large they are, and how they follow each change.
use Rattle.std.proofs.Common.{◌≡◌, ◌≢◌, ℕ, ◌+◌, ◌-◌, ◌<◌, ◌≤◌, ◌⊎◌, inl, inr, ℤ, pos, neg_ℤ, ◌+ℤ◌, ◌-ℤ◌, ◌≤ℤ◌, List, length, get_or, set, replicate, max, cond, eqb, refl, sym, ap, subst, ◌∙◌, arith}
use Rattle.std.proofs.lemmas.List.{get_or-set_same, get_or-set_other, length-set, length-replicate, get_or_past}
use Rattle.std.proofs.lemmas.Bool.{cases_eq, cases_lt}
use Rattle.std.proofs.lemmas.Bool.Decides.{nat_tests}
use Rattle.std.proofs.lemmas.Int.{ints}
use Rattle.grow_counters.specs.Counts.{counter_limit, kept_count}
use Rattle.rights_matrix.specs.Changes.{MovesRights, MakesRights}
use Rattle.rights_matrix.specs.Matrix.{MatrixState, site_count, grant, entry, start_entry, start_matrix, gained, given, IsMatrix, raised}
use Rattle.rights_matrix.proofs.EntryLemmas.{entry-raised_row, entry-raised_column}
use Rattle.rights_matrix.proofs.KeptLemmas.{start_entry_own}
use Rattle.rights_matrix.proofs.MatrixLemmas.{gained_small, given_small}
use Rattle.rights_matrix.proofs.StartLemmas.{entry-start, zero_row}
use Rattle.seat_rows.specs.Seats.{SeatState, taken_at, signed_rights, TellsRights, IsSeatState}

abbrev seats : MatrixState → List ℕ → SeatState
seats m t = record { matrix = m; taken = t }

-- a site that contracts see is one of the fields'
pub site_there : (m : MatrixState) (t : List ℕ) (st : SeatState) (i : ℕ) → seats m t ≡ st → i < site_count st.matrix → i < site_count m
site_there m t st i is_st inside = subst (λ (x : SeatState). i < site_count x.matrix) (sym is_st) inside

-- what the formula adds up to is far below 64 bits
pub signed_small : (st : SeatState) (i : ℕ) → IsSeatState st → i < site_count st.matrix → (neg_ℤ (pos 64000000000000) ≤ℤ signed_rights st i) × (signed_rights st i ≤ℤ pos 64000000000000)
signed_small st i h inside =
    let got = gained_small st.matrix i h.matrix in
    let gave = given_small st.matrix i h.matrix inside in
    let took = h.limit i inside in
    (omega (arith, ints), omega (arith, ints))

-- and so are the numbers, as the code reads them
pub number_small : (st0 st : SeatState) (xs : List ℤ) (i : ℕ) → st0 ≡ st → IsSeatState st0 → TellsRights st0 xs → i < site_count st.matrix → (neg_ℤ (pos 64000000000000) ≤ℤ get_or xs i (pos 0)) × (get_or xs i (pos 0) ≤ℤ pos 64000000000000)
number_small st0 st xs i is_st h tells inside =
    let inside' : i < site_count st0.matrix = rw is_st inside in
    rw (tells.each i inside') (signed_small st0 i h inside')

pub taken_small : (st0 st : SeatState) (i : ℕ) → st0 ≡ st → IsSeatState st0 → i < site_count st.matrix → taken_at st i ≤ 1000000000000
taken_small st0 st i is_st h inside = let at : taken_at st0 i ≤ 1000000000000 = h.limit i (rw is_st inside) in rw (← is_st) at

pub start_small : (st0 st : SeatState) (s j : ℕ) → st0 ≡ st → IsSeatState st0 → start_entry st.matrix s j ≤ 4294967296
start_small st0 st s j is_st h =
    let few : st0.matrix.seats < 4294967296 = h.matrix.few_seats in
    let at : start_entry st0.matrix s j ≤ 4294967296 = grind (arith, nat_tests) in
    rw (← is_st) at

-- a number that another one's fall leaves no greater
pub lost_small : (xs ys : List ℤ) (i j n : ℕ) → i < length xs → ys ≡ set xs i (get_or xs i (pos 0) -ℤ pos n) → get_or xs i (pos 0) ≤ℤ pos 64000000000000 → get_or xs j (pos 0) ≤ℤ pos 64000000000000 → get_or ys j (pos 0) ≤ℤ pos 64000000000000
lost_small xs ys i j n inside is_ys at_i at_j = by (cases_eq j i)
  where
    by : (j ≡ i) ⊎ (j ≢ i) → get_or ys j (pos 0) ≤ℤ pos 64000000000000
    by (inl same) =
        let here : get_or (set xs i (get_or xs i (pos 0) -ℤ pos n)) i (pos 0) ≡ get_or xs i (pos 0) -ℤ pos n = get_or-set_same xs i _ (pos 0) inside in
        rw (is_ys, same, here) (omega (arith, ints))
    by (inr other) =
        let there : get_or (set xs i (get_or xs i (pos 0) -ℤ pos n)) j (pos 0) ≡ get_or xs j (pos 0) = get_or-set_other xs i j _ (pos 0) other in
        rw (is_ys, there) at_j

-- n more are taken at site i
pub tells_taken : (m : MatrixState) (t u : List ℕ) (xs ys : List ℤ) (i k n : ℕ) → TellsRights (seats m t) xs → i < site_count m → length t ≡ site_count m → k ≡ i → u ≡ set t k (get_or t k 0 + n) → ys ≡ set xs i (get_or xs i (pos 0) -ℤ pos n) → TellsRights (seats m u) ys
tells_taken m t u xs ys i k n tells inside size place is_u is_ys = record {
  size = ap length is_ys ∙ (length-set xs i _ ∙ tells.size);
  each = λ l below. each l below (cases_eq l i);
}
  where
    u_is : u ≡ set t i (get_or t i 0 + n)
    u_is = rw place at is_u

    each : (l : ℕ) → l < site_count m → (l ≡ i) ⊎ (l ≢ i) → get_or ys l (pos 0) ≡ signed_rights (seats m u) l
    each l below (inl same) =
        let number : get_or ys i (pos 0) ≡ get_or xs i (pos 0) -ℤ pos n = ap (λ (zs : List ℤ). get_or zs i (pos 0)) is_ys ∙ get_or-set_same xs i _ (pos 0) (omega (arith, tells.size)) in
        let count : get_or u i 0 ≡ get_or t i 0 + n = ap (λ (zs : List ℕ). get_or zs i 0) u_is ∙ get_or-set_same t i _ 0 (omega arith) in
        let before = tells.each i inside in
        rw (same, number, before) (omega (arith, ints, count))
    each l below (inr other) =
        let number : get_or ys l (pos 0) ≡ get_or xs l (pos 0) = ap (λ (zs : List ℤ). get_or zs l (pos 0)) is_ys ∙ get_or-set_other xs i l _ (pos 0) other in
        let count : get_or u l 0 ≡ get_or t l 0 = ap (λ (zs : List ℕ). get_or zs l 0) u_is ∙ get_or-set_other t i l _ 0 other in
        rw (number, count) (tells.each l below)

-- the same where the count is raised to at least n
pub tells_raised : (m : MatrixState) (t u : List ℕ) (st : SeatState) (xs ys : List ℤ) (i k n by had : ℕ) → seats m t ≡ st → TellsRights (seats m t) xs → i < site_count m → length t ≡ site_count m → k ≡ i → had ≡ taken_at st i → by ≡ n - had → u ≡ set t k (max (get_or t k 0) n) → ys ≡ set xs i (get_or xs i (pos 0) -ℤ pos by) → TellsRights (seats m u) ys
tells_raised m t u st xs ys i k n by had is_st tells inside size place is_had is_by is_u is_ys =
    let read : had ≡ get_or t i 0 = is_had ∙ ap (λ (x : SeatState). taken_at x i) (sym is_st) in
    let here : get_or t k 0 ≡ get_or t i 0 = ap (λ l. get_or t l 0) place in
    let top : max (get_or t k 0) n ≡ get_or t k 0 + by = omega (arith, read, here, is_by) in
    tells_taken m t u xs ys i k by tells inside size place (is_u ∙ ap (set t k) top) is_ys

-- rights move from site i to site j
pub tells_moved : (m new : MatrixState) (t : List ℕ) (xs ys zs : List ℤ) (i j n : ℕ) → TellsRights (seats m t) xs → i < site_count m → j < site_count m → j ≢ i → new ≡ raised m i j n → MovesRights m new i j n → ys ≡ set xs i (get_or xs i (pos 0) -ℤ pos n) → zs ≡ set ys j (get_or ys j (pos 0) +ℤ pos n) → TellsRights (seats new t) zs
tells_moved m new t xs ys zs i j n tells in_i in_j apart is_new moves is_ys is_zs = record {
  size = ap length is_zs ∙ (length-set ys j _ ∙ (ap length is_ys ∙ (length-set xs i _ ∙ (tells.size ∙ sym sites))));
  each = λ l below. each l (omega (arith, below, sites)) (cases_eq l i) (cases_eq l j);
}
  where
    sites : site_count new ≡ site_count m
    sites = ap site_count is_new ∙ length-set m.rows i _

    ys_at : (l : ℕ) → l ≢ i → get_or ys l (pos 0) ≡ get_or xs l (pos 0)
    ys_at l other = ap (λ (x : List ℤ). get_or x l (pos 0)) is_ys ∙ get_or-set_other xs i l _ (pos 0) other

    zs_at : (l : ℕ) → l ≢ j → get_or zs l (pos 0) ≡ get_or ys l (pos 0)
    zs_at l other = ap (λ (x : List ℤ). get_or x l (pos 0)) is_zs ∙ get_or-set_other ys j l _ (pos 0) other

    each : (l : ℕ) → l < site_count m → (l ≡ i) ⊎ (l ≢ i) → (l ≡ j) ⊎ (l ≢ j) → get_or zs l (pos 0) ≡ signed_rights (seats new t) l
    each l below (inl same) w =
        let number : get_or ys i (pos 0) ≡ get_or xs i (pos 0) -ℤ pos n = ap (λ (x : List ℤ). get_or x i (pos 0)) is_ys ∙ get_or-set_same xs i _ (pos 0) (omega (arith, tells.size)) in
        let received = moves.received i in
        let sent = moves.sent i in
        let got : gained new i ≡ gained m i = grind (arith, nat_tests) in
        let gave : given new i ≡ given m i + n = grind (arith, nat_tests) in
        rw (same, zs_at i (λ e. apart (sym e)), number, tells.each i in_i) (omega (arith, ints, got, gave))
    each l below (inr other) (inl same) =
        let number : get_or zs j (pos 0) ≡ get_or ys j (pos 0) +ℤ pos n = ap (λ (x : List ℤ). get_or x j (pos 0)) is_zs ∙ get_or-set_same ys j _ (pos 0) (omega (arith, tells.size, ap length is_ys, length-set xs i (get_or xs i (pos 0) -ℤ pos n))) in
        let received = moves.received j in
        let sent = moves.sent j in
        let got : gained new j ≡ gained m j + n = grind (arith, nat_tests) in
        let gave : given new j ≡ given m j = grind (arith, nat_tests) in
        rw (same, number, ys_at j apart, tells.each j in_j) (omega (arith, ints, got, gave))
    each l below (inr not_i) (inr not_j) =
        let received = moves.received l in
        let sent = moves.sent l in
        let got : gained new l ≡ gained m l = grind (arith, nat_tests) in
        let gave : given new l ≡ given m l = grind (arith, nat_tests) in
        rw (zs_at l not_j, ys_at l not_i, got, gave) (tells.each l below)

-- site i makes rights
pub tells_made : (m new : MatrixState) (t : List ℕ) (xs ys : List ℤ) (i n : ℕ) → TellsRights (seats m t) xs → i < site_count m → new ≡ raised m i i n → MakesRights m new i n → ys ≡ set xs i (get_or xs i (pos 0) +ℤ pos n) → TellsRights (seats new t) ys
tells_made m new t xs ys i n tells in_i is_new makes is_ys = record {
  size = ap length is_ys ∙ (length-set xs i _ ∙ (tells.size ∙ sym sites));
  each = λ l below. each l (omega (arith, below, sites)) (cases_eq l i);
}
  where
    sites : site_count new ≡ site_count m
    sites = ap site_count is_new ∙ length-set m.rows i _

    each : (l : ℕ) → l < site_count m → (l ≡ i) ⊎ (l ≢ i) → get_or ys l (pos 0) ≡ signed_rights (seats new t) l
    each l below (inl same) =
        let number : get_or ys i (pos 0) ≡ get_or xs i (pos 0) +ℤ pos n = ap (λ (x : List ℤ). get_or x i (pos 0)) is_ys ∙ get_or-set_same xs i _ (pos 0) (omega (arith, tells.size)) in
        let made = makes.made i in
        let got : gained new i ≡ gained m i + n = grind (arith, nat_tests) in
        rw (same, number, tells.each i in_i) (omega (arith, ints, got, makes.sent i))
    each l below (inr other) =
        let number : get_or ys l (pos 0) ≡ get_or xs l (pos 0) = ap (λ (x : List ℤ). get_or x l (pos 0)) is_ys ∙ get_or-set_other xs i l _ (pos 0) other in
        let made = makes.made l in
        let got : gained new l ≡ gained m l = grind (arith, nat_tests) in
        rw (number, got, makes.sent l) (tells.each l below)

-- a restart keeps one count of all that there are
pub kept_all : (xs : List ℕ) (site i : ℕ) → kept_count xs 0 (length xs) site i ≡ cond (eqb i site) (get_or xs i 0) 0
kept_all xs site i = by (cases_lt i (length xs))
  where
    by : (i < length xs) ⊎ (length xs ≤ i) → kept_count xs 0 (length xs) site i ≡ cond (eqb i site) (get_or xs i 0) 0
    by (inl below) = grind (arith, nat_tests)
    by (inr past) = let none : get_or xs i 0 ≡ 0 = get_or_past xs i 0 past in grind (arith, nat_tests)

-- What holds of every seats, at the start and after an entry rose.

pub IsSeatState-start : (n home granted : ℕ) (m : MatrixState) (t : List ℕ) → IsMatrix m → m ≡ start_matrix n home granted → t ≡ replicate {A = ℕ} n 0 → home < n → IsSeatState (seats m t)
IsSeatState-start n home granted m t h is_m is_t inside = record {
  matrix = h;
  size = ap length is_t ∙ (length-replicate {A = ℕ} n 0 ∙ sym sites);
  returned = λ i below. returned i;
  limit = λ i below. let none = zero i in omega arith;
}
  where
    sites : site_count m ≡ n
    sites = ap site_count is_m ∙ (length-set (replicate n (replicate {A = ℕ} n 0)) home _ ∙ length-replicate n (replicate {A = ℕ} n 0))

    zero : (i : ℕ) → get_or t i 0 ≡ 0
    zero i = ap (λ (x : List ℕ). get_or x i 0) is_t ∙ zero_row n i

    returned : (i : ℕ) → entry m i i - grant m i ≤ get_or t i 0
    returned i =
        let own : entry (start_matrix n home granted) i i ≡ grant (start_matrix n home granted) i = entry-start n home granted i i inside ∙ start_entry_own (start_matrix n home granted) i in
        rw is_m (omega (arith, own))

pub IsSeatState-raised : (m new : MatrixState) (t : List ℕ) (s j by : ℕ) → IsSeatState (seats m t) → IsMatrix new → s < site_count m → j ≢ s → new ≡ raised m s j by → IsSeatState (seats new t)
IsSeatState-raised m new t s j by h h_new inside apart is_new = record {
  matrix = h_new;
  size = h.size ∙ sym sites;
  returned = λ i below. returned i (omega (arith, below, sites)) (cases_eq i s);
  limit = λ i below. h.limit i (omega (arith, below, sites));
}
  where
    sites : site_count new ≡ site_count m
    sites = ap site_count is_new ∙ length-set m.rows s _

    returned : (i : ℕ) → i < site_count m → (i ≡ s) ⊎ (i ≢ s) → entry new i i - grant new i ≤ get_or t i 0
    returned i below (inl same) =
        let own : entry (raised m s j by) s s ≡ entry m s s = entry-raised_column m s j by s inside (λ e. apart (sym e)) in
        let before : entry m s s - grant m s ≤ get_or t s 0 = h.returned s inside in
        rw (same, is_new) (omega (arith, own, before))
    returned i below (inr other) =
        let own : entry (raised m s j by) i i ≡ entry m i i = entry-raised_row m s j by i i other in
        let before : entry m i i - grant m i ≤ get_or t i 0 = h.returned i below in
        rw is_new (omega (arith, own, before))
