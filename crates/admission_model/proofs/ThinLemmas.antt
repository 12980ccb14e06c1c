-- Rows that were told before, and are known, may be left out.
use Rattle.std.proofs.Common.{◌≡◌, ℕ, ◌≤◌, ◌⊎◌, inl, inr, max, Bool, true, false, not, ◌&&◌, ◌||◌, cond, eqb, List, [], ◌∷◌, refl, sym, ap, ◌∙◌, arith}
use Rattle.std.specs.Str.{bytes_eq}
use Rattle.std.specs.List.{AllByRecursion, list_any, filter}
use Rattle.std.proofs.lemmas.Bool.{cases_Bool, eqb-true, and_parts, cond-true, cond-false}
use Rattle.std.proofs.lemmas.Slice.Eq.{bytes_eq-Decides}
use Rattle.merge_core.specs.declared.cell.Cell.{Cell}
use Rattle.merge_core.specs.declared.cell.Cell.TheVariants.{Out, Taken, Ann, Fin}
use Rattle.merge_core.specs.declared.delta.Row.{Row}
use Rattle.merge_core.specs.Layout.{Shape}
use Rattle.merge_core.specs.Rows.{start_counter, counter_in, counters_of}
use Rattle.merge_core.specs.Naming.{shown_by}
use Rattle.merge_core.specs.Thin.{is_same_row, thin_rows}
use Rattle.admission_model.proofs.SnapshotLemmas.{matches}

-- a row's counters are at most these
abbrev pub IsBelow : (ℕ → ℕ → Cell → ℕ) → Row → Type 0
IsBelow counter p = (cell : Cell) → counter_in (counters_of p) cell ≤ counter p.r p.s cell

same_counters : (counter : ℕ → ℕ → Cell → ℕ) (p q : Row) → is_same_row p q ≡ true → IsBelow counter q → IsBelow counter p
same_counters counter p q e below cell =
    let e0 = and_parts (eqb p.r q.r) (eqb p.s q.s && (bytes_eq p.out q.out && (eqb p.taken q.taken && (eqb p.ann q.ann && eqb p.fin q.fin)))) e in
    let e1 = and_parts (eqb p.s q.s) (bytes_eq p.out q.out && (eqb p.taken q.taken && (eqb p.ann q.ann && eqb p.fin q.fin))) e0.1 in
    let e2 = and_parts (bytes_eq p.out q.out) (eqb p.taken q.taken && (eqb p.ann q.ann && eqb p.fin q.fin)) e1.1 in
    let e3 = and_parts (eqb p.taken q.taken) (eqb p.ann q.ann && eqb p.fin q.fin) e2.1 in
    let e4 = and_parts (eqb p.ann q.ann) (eqb p.fin q.fin) e3.1 in
    let place : counter p.r p.s cell ≡ counter q.r q.s cell = ap (λ x. counter x p.s cell) (eqb-true p.r q.r e0.0) ∙ ap (λ x. counter q.r x cell) (eqb-true p.s q.s e1.0) in
    omega (arith, below cell, place, at cell ((bytes_eq-Decides p.out q.out).0 e2.0) (eqb-true p.taken q.taken e3.0) (eqb-true p.ann q.ann e4.0) (eqb-true p.fin q.fin e4.1))
  where
    at : (c : Cell) → p.out ≡ q.out → p.taken ≡ q.taken → p.ann ≡ q.ann → p.fin ≡ q.fin → counter_in (counters_of p) c ≡ counter_in (counters_of q) c
    at (Out j) outs takens anns fins = ap (λ out. counter_in (record { out = out; taken = 0; ann = 0; fin = 0 }) (Out j)) outs
    at Taken outs takens anns fins = takens
    at Ann outs takens anns fins = anns
    at Fin outs takens anns fins = fins

-- a row that stands in a list of known rows is known
told_before : (counter : ℕ → ℕ → Cell → ℕ) (p : Row) (earlier : List Row) → AllByRecursion (IsBelow counter) earlier → list_any (is_same_row p) earlier ≡ true → IsBelow counter p
told_before counter p [] all e = cc
told_before counter p (q ∷ qs) all e = at (cases_Bool (is_same_row p q)) (told_before counter p qs all.1)
  where
    at : (is_same_row p q ≡ true) ⊎ (is_same_row p q ≡ false) → (list_any (is_same_row p) qs ≡ true → IsBelow counter p) → IsBelow counter p
    at (inl same) later = same_counters counter p q same all.0
    at (inr other) later = later (sym (ap (λ b. b || list_any (is_same_row p) qs) other) ∙ e)

-- how many rows a filter leaves of a record and a site
matches_filter : (test : Row → Bool) (r s : ℕ) (ps : List Row) → matches r s (filter test ps) ≤ matches r s ps
unfolding matches
matches_filter test r s [] = omega arith
matches_filter test r s (p ∷ ps) = at (cases_Bool (test p)) (matches_filter test r s ps)
  where
    at : (test p ≡ true) ⊎ (test p ≡ false) → matches r s (filter test ps) ≤ matches r s ps → matches r s (filter test (p ∷ ps)) ≤ matches r s (p ∷ ps)
    at (inl e) later = rw e (omega (arith, later))
    at (inr e) later = rw e (omega (arith, later))

-- where no row is of a record and a site, the start is shown
shown_absent : (shape : Shape) (rows : List Row) (r s : ℕ) (cell : Cell) → matches r s rows ≡ 0 → shown_by shape rows r s cell ≡ start_counter shape r s cell
unfolding matches
shown_absent shape [] r s cell none = refl
shown_absent shape (p ∷ ps) r s cell none = at (cases_Bool (eqb p.r r && eqb p.s s)) (shown_absent shape ps r s cell)
  where
    at : ((eqb p.r r && eqb p.s s) ≡ true) ⊎ ((eqb p.r r && eqb p.s s) ≡ false) → (matches r s ps ≡ 0 → shown_by shape ps r s cell ≡ start_counter shape r s cell) → shown_by shape (p ∷ ps) r s cell ≡ start_counter shape r s cell
    at (inl e) later = absurd (omega (arith, none, cond-true {A = ℕ} (eqb p.r r && eqb p.s s) 1 0 e))
    at (inr e) later =
        cond-false (eqb p.r r && eqb p.s s) (counter_in (counters_of p) cell) (shown_by shape ps r s cell) e
        ∙ later (omega (arith, none, cond-false {A = ℕ} (eqb p.r r && eqb p.s s) 1 0 e))

-- A thin delta raises known counters as the whole delta does, where the rows that it leaves out are known and
-- no two rows are of one record and site.
pub thin_raises : (shape : Shape) (counter : ℕ → ℕ → Cell → ℕ) (rows earlier : List Row) → ((r s : ℕ) (cell : Cell) → start_counter shape r s cell ≤ counter r s cell) → AllByRecursion (IsBelow counter) earlier → ((r s : ℕ) → matches r s rows ≤ 1) → (r s : ℕ) (cell : Cell) → max (counter r s cell) (shown_by shape (thin_rows rows earlier) r s cell) ≡ max (counter r s cell) (shown_by shape rows r s cell)
unfolding matches
thin_raises shape counter [] earlier low known apart r s cell = refl
thin_raises shape counter (p ∷ ps) earlier low known apart r s cell =
    at (cases_Bool (list_any (is_same_row p) earlier)) (cases_Bool (eqb p.r r && eqb p.s s))
    (thin_raises shape counter ps earlier low known (λ r2 s2. omega (arith, apart r2 s2)) r s cell)
  where
    keeps : Row → Bool
    keeps q = not (list_any (is_same_row q) earlier)

    whole_first : (eqb p.r r && eqb p.s s) ≡ true → shown_by shape (p ∷ ps) r s cell ≡ counter_in (counters_of p) cell
    whole_first e = cond-true (eqb p.r r && eqb p.s s) (counter_in (counters_of p) cell) (shown_by shape ps r s cell) e

    whole_later : (eqb p.r r && eqb p.s s) ≡ false → shown_by shape (p ∷ ps) r s cell ≡ shown_by shape ps r s cell
    whole_later e = cond-false (eqb p.r r && eqb p.s s) (counter_in (counters_of p) cell) (shown_by shape ps r s cell) e

    left_out : list_any (is_same_row p) earlier ≡ true → thin_rows (p ∷ ps) earlier ≡ thin_rows ps earlier
    left_out e = ap (λ b. cond (not b) (p ∷ thin_rows ps earlier) (thin_rows ps earlier)) e

    kept : list_any (is_same_row p) earlier ≡ false → thin_rows (p ∷ ps) earlier ≡ p ∷ thin_rows ps earlier
    kept e = ap (λ b. cond (not b) (p ∷ thin_rows ps earlier) (thin_rows ps earlier)) e

    known_here : (eqb p.r r && eqb p.s s) ≡ true → IsBelow counter p → counter_in (counters_of p) cell ≤ counter r s cell
    known_here e below =
        let same = and_parts (eqb p.r r) (eqb p.s s) e in
        omega (arith, below cell, ap (λ x. counter x p.s cell) (eqb-true p.r r same.0), ap (λ x. counter r x cell) (eqb-true p.s s same.1))

    none_later : (eqb p.r r && eqb p.s s) ≡ true → matches r s (thin_rows ps earlier) ≡ 0
    none_later e = omega (arith, apart r s, cond-true {A = ℕ} (eqb p.r r && eqb p.s s) 1 0 e, matches_filter (λ q. not (list_any (is_same_row q) earlier)) r s ps)

    at : (list_any (is_same_row p) earlier ≡ true) ⊎ (list_any (is_same_row p) earlier ≡ false) → ((eqb p.r r && eqb p.s s) ≡ true) ⊎ ((eqb p.r r && eqb p.s s) ≡ false) → max (counter r s cell) (shown_by shape (thin_rows ps earlier) r s cell) ≡ max (counter r s cell) (shown_by shape ps r s cell) → max (counter r s cell) (shown_by shape (thin_rows (p ∷ ps) earlier) r s cell) ≡ max (counter r s cell) (shown_by shape (p ∷ ps) r s cell)
    at (inl told) (inl here) later =
        omega (
          arith,
          ap (λ rows. shown_by shape rows r s cell) (left_out told),
          shown_absent shape (thin_rows ps earlier) r s cell (none_later here),
          low r s cell,
          whole_first here,
          known_here here (told_before counter p earlier known told),
        )
    at (inl told) (inr elsewhere) later =
        omega (arith, ap (λ rows. shown_by shape rows r s cell) (left_out told), whole_later elsewhere, later)
    at (inr new) (inl here) later =
        omega (
          arith,
          ap (λ rows. shown_by shape rows r s cell) (kept new),
          cond-true (eqb p.r r && eqb p.s s) (counter_in (counters_of p) cell) (shown_by shape (thin_rows ps earlier) r s cell) here,
          whole_first here,
        )
    at (inr new) (inr elsewhere) later =
        omega (
          arith,
          ap (λ rows. shown_by shape rows r s cell) (kept new),
          cond-false (eqb p.r r && eqb p.s s) (counter_in (counters_of p) cell) (shown_by shape (thin_rows ps earlier) r s cell) elsewhere,
          whole_later elsewhere,
          later,
        )

-- whatever holds of all rows holds of those that a thin delta keeps
pub all_thin : (P : Row → Type 0) (rows earlier : List Row) → AllByRecursion P rows → AllByRecursion P (thin_rows rows earlier)
all_thin P [] earlier all = tt
all_thin P (p ∷ ps) earlier all = at (cases_Bool (list_any (is_same_row p) earlier)) (all_thin P ps earlier all.1)
  where
    at : (list_any (is_same_row p) earlier ≡ true) ⊎ (list_any (is_same_row p) earlier ≡ false) → AllByRecursion P (thin_rows ps earlier) → AllByRecursion P (thin_rows (p ∷ ps) earlier)
    at (inl told) later = rw told later
    at (inr new) later = rw new (all.0, later)
