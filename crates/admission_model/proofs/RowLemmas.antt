-- Rows that fit: of the start, of a delta, of two joined; and what a delta's rows show.
use Rattle.std.proofs.Common.{◌≡◌, ◌≢◌, ℕ, suc, ◌-◌, ◌<◌, ◌≤◌, ◌⊎◌, inl, inr, max, Bool, true, false, not, ◌&&◌, cond, eqb, ltb, leb, List, [], ◌∷◌, length, Option, Some, None, is_some, refl, sym, ap, subst, ◌∙◌, arith}
use Rattle.std.specs.Prelude.{option_map}
use Rattle.std.specs.List.{AllByRecursion}
use Rattle.std.proofs.lemmas.List.{get_or_past, length-map}
use Rattle.std.proofs.lemmas.Bool.{cases_eq, cases_lt, cases_Bool, eq-eqb, ne_eqb, eqb-true, ltb-true, ltb-false, leb-true, and_parts, cond_both, cond-true, cond-false}
use Rattle.merge_core.specs.declared.cell.Cell.{Cell}
use Rattle.merge_core.specs.declared.cell.Cell.TheVariants.{Out, Taken, Ann, Fin}
use Rattle.merge_core.specs.declared.delta.Row.{Row}
use Rattle.merge_core.specs.Layout.{LayoutState, Shape, RecordShape, shape_of, record_shape}
use Rattle.merge_core.specs.Counts.{counter_limit}
use Rattle.merge_core.specs.Rows.{grant, start_counter, no_record, counter_in, counters_of}
use Rattle.merge_core.specs.Naming.{shown_by}
use Rattle.merge_core.specs.Sums.{one_if, number_of_cells}
use Rattle.merge_core.specs.Tests.{is_placed, is_valid, overfull, first_failing}
use Rattle.admission_model.specs.Sound.{FitsRow}
use Rattle.merge_core.proofs.SumLemmas.{total_member}

pub FitsRow-along : (granted s : ℕ) (f g : Cell → ℕ) → ((cell : Cell) → g cell ≡ f cell) → FitsRow granted s f → FitsRow granted s g
FitsRow-along granted s f g same fits = record {
  grant_kept = omega (arith, fits.grant_kept, same (Out s));
  returned_after_taken = omega (arith, fits.returned_after_taken, same (Out s), same Taken);
  few_taken = omega (arith, fits.few_taken, same Taken);
  few_moved = λ j apart. omega (arith, fits.few_moved j apart, same (Out j));
  finished_after_announced = omega (arith, fits.finished_after_announced, same Fin, same Ann);
  few_announced = omega (arith, fits.few_announced, same Ann);
}

-- the join of two rows that fit
pub FitsRow-max : (granted s : ℕ) (f g : Cell → ℕ) → FitsRow granted s f → FitsRow granted s g → FitsRow granted s (λ cell. max (f cell) (g cell))
FitsRow-max granted s f g a b = record {
  grant_kept = omega (arith, a.grant_kept);
  returned_after_taken = omega (arith, a.returned_after_taken, b.returned_after_taken);
  few_taken = omega (arith, a.few_taken, b.few_taken);
  few_moved = λ j apart. omega (arith, a.few_moved j apart, b.few_moved j apart);
  finished_after_announced = omega (arith, a.finished_after_announced, b.finished_after_announced);
  few_announced = omega (arith, a.few_announced, b.few_announced);
}

pub start_diagonal : (shape : Shape) (r s : ℕ) → start_counter shape r s (Out s) ≡ grant shape r s
start_diagonal shape r s = cond-true {A = ℕ} (eqb s s) (grant shape r s) 0 (eq-eqb s s refl)

pub start_elsewhere : (shape : Shape) (r s j : ℕ) → j ≢ s → start_counter shape r s (Out j) ≡ 0
start_elsewhere shape r s j apart = cond-false {A = ℕ} (eqb j s) (grant shape r s) 0 (ne_eqb j s apart)

-- a record that is not there has no seats, so that all its counters start at 0
pub start_past : (layout : LayoutState) (r s : ℕ) (cell : Cell) → length layout.records ≤ r → start_counter (shape_of layout) r s cell ≡ 0
start_past layout r s cell past = at cell
  where
    none : grant (shape_of layout) r s ≡ 0
    none =
        ap (λ (x : RecordShape). cond (eqb s x.home) x.seats 0) (get_or_past (shape_of layout).records r no_record (omega (arith, length-map layout.records record_shape)))
        ∙ cond_both (eqb s 0) 0 0 (λ x. x ≡ 0) (λ e. refl) (λ e. refl)

    at : (c : Cell) → start_counter (shape_of layout) r s c ≡ 0
    at (Out j) = cond_both (eqb j s) (grant (shape_of layout) r s) 0 (λ x. x ≡ 0) (λ e. none) (λ e. refl)
    at Taken = refl
    at Ann = refl
    at Fin = refl

pub FitsRow-start : (shape : Shape) (r s : ℕ) → FitsRow (grant shape r s) s (start_counter shape r s)
FitsRow-start shape r s = record {
  grant_kept = omega (arith, start_diagonal shape r s);
  returned_after_taken = omega (arith, start_diagonal shape r s);
  few_taken = omega arith;
  few_moved = λ j apart. omega (arith, start_elsewhere shape r s j apart);
  finished_after_announced = omega arith;
  few_announced = omega arith;
}

-- a row that fits is at least the start
pub start_below : (shape : Shape) (r s : ℕ) (f : Cell → ℕ) → FitsRow (grant shape r s) s f → (cell : Cell) → start_counter shape r s cell ≤ f cell
start_below shape r s f fits (Out j) = at (cases_eq j s)
  where
    at : (j ≡ s) ⊎ (j ≡ s → ⊥) → start_counter shape r s (Out j) ≤ f (Out j)
    at (inl e) =
        let same : f (Out j) ≡ f (Out s) = ap (λ x. f (Out x)) e in
        omega (arith, cond-true {A = ℕ} (eqb j s) (grant shape r s) 0 (eq-eqb j s e), fits.grant_kept)
    at (inr ne) = omega (arith, start_elsewhere shape r s j ne)
start_below shape r s f fits Taken = omega arith
start_below shape r s f fits Ann = omega arith
start_below shape r s f fits Fin = omega arith

pub none_of : {X : Type 0} (o : Option X) → is_some o ≡ false → o ≡ None
none_of None e = refl
none_of (Some x) e = cc

-- all rows pass a test
abbrev pub AllPass : (Row → Bool) → List Row → Type 0
AllPass test rows = AllByRecursion (λ p. test p ≡ true) rows

map_none : (o : Option ℕ) → option_map suc o ≡ None → o ≡ None
map_none None e = refl
map_none (Some x) e = cc

pub AllPass-from : (test : Row → Bool) (rows : List Row) → first_failing test rows ≡ None → AllPass test rows
AllPass-from test [] none = tt
AllPass-from test (p ∷ ps) none = at (cases_Bool (test p)) (AllPass-from test ps)
  where
    at : (test p ≡ true) ⊎ (test p ≡ false) → (first_failing test ps ≡ None → AllPass test ps) → AllPass test (p ∷ ps)
    at (inl e) later = (e, later (map_none (first_failing test ps) (sym (cond-true (test p) (option_map suc (first_failing test ps)) (Some 0) e) ∙ none)))
    at (inr e) later =
        let some : ◌≡◌ {A = Option ℕ} (Some 0) None = sym (cond-false (test p) (option_map suc (first_failing test ps)) (Some 0) e) ∙ none in cc

pub first_failing-none : (test : Row → Bool) (rows : List Row) → AllPass test rows → first_failing test rows ≡ None
first_failing-none test [] all = refl
first_failing-none test (p ∷ ps) all =
    cond-true (test p) (option_map suc (first_failing test ps)) (Some 0) all.0 ∙ ap (option_map suc) (first_failing-none test ps all.1)

one_if-zero : (b : Bool) → one_if b ≡ 0 → b ≡ false
one_if-zero true e = cc
one_if-zero false e = refl

pub number_of_cells-zero : (n : ℕ) (test : Cell → Bool) → number_of_cells n test ≡ 0 → ((j : ℕ) → j < n → test (Out j) ≡ false) × ((test Taken ≡ false) × ((test Ann ≡ false) × (test Fin ≡ false)))
number_of_cells-zero n test none = (
  (λ j below. one_if-zero (test (Out j)) (omega (arith, total_member n j (λ k. one_if (test (Out k))) below))),
  (one_if-zero (test Taken) (omega arith), (one_if-zero (test Ann) (omega arith), one_if-zero (test Fin) (omega arith))),
)

not_past_limit : (b c : Bool) → (not b && c) ≡ false → b ≡ false → c ≡ false
not_past_limit true c e d = cc
not_past_limit false c e d = e

few_moved_of : (p : Row) → overfull p ≡ 0 → (j : ℕ) → j ≢ p.s → counter_in (counters_of p) (Out j) ≤ counter_limit
few_moved_of p none j apart = at (cases_lt j (length p.out))
  where
    at : (j < length p.out) ⊎ (length p.out ≤ j) → counter_in (counters_of p) (Out j) ≤ counter_limit
    at (inl below) =
        let past = λ (k : ℕ). one_if (not (eqb k p.s) && ltb counter_limit (counter_in (counters_of p) (Out k))) in
        let zero_here : past j ≡ 0 = omega (arith, total_member (length p.out) j past below) in
        ltb-false counter_limit (counter_in (counters_of p) (Out j))
        (not_past_limit (eqb j p.s) (ltb counter_limit (counter_in (counters_of p) (Out j))) (one_if-zero (not (eqb j p.s) && ltb counter_limit (counter_in (counters_of p) (Out j))) zero_here) (ne_eqb j p.s apart))
    at (inr beyond) = omega (arith, get_or_past p.out j 0 beyond)

-- a valid row fits
pub FitsRow-valid : (shape : Shape) (p : Row) → is_valid shape p ≡ true → FitsRow (grant shape p.r p.s) p.s (counter_in (counters_of p))
FitsRow-valid shape p valid =
    let granted = grant shape p.r p.s in
    let own_out = counter_in (counters_of p) (Out p.s) in
    let v0 = and_parts (leb granted own_out) (leb (own_out - granted) p.taken && (leb p.taken counter_limit && (eqb (overfull p) 0 && (leb p.fin p.ann && leb p.ann counter_limit)))) valid in
    let v1 = and_parts (leb (own_out - granted) p.taken) (leb p.taken counter_limit && (eqb (overfull p) 0 && (leb p.fin p.ann && leb p.ann counter_limit))) v0.1 in
    let v2 = and_parts (leb p.taken counter_limit) (eqb (overfull p) 0 && (leb p.fin p.ann && leb p.ann counter_limit)) v1.1 in
    let v3 = and_parts (eqb (overfull p) 0) (leb p.fin p.ann && leb p.ann counter_limit) v2.1 in
    let v4 = and_parts (leb p.fin p.ann) (leb p.ann counter_limit) v3.1 in
    record {
      grant_kept = leb-true granted own_out v0.0;
      returned_after_taken = omega (arith, leb-true granted own_out v0.0, leb-true (own_out - granted) p.taken v1.0);
      few_taken = leb-true p.taken counter_limit v2.0;
      few_moved = few_moved_of p (eqb-true (overfull p) 0 v3.0);
      finished_after_announced = leb-true p.fin p.ann v4.0;
      few_announced = leb-true p.ann counter_limit v4.1;
    }

-- the first row that a delta has for a record and a site decides
shown_first : (shape : Shape) (p : Row) (ps : List Row) (r s : ℕ) (cell : Cell) → (eqb p.r r && eqb p.s s) ≡ true → shown_by shape (p ∷ ps) r s cell ≡ counter_in (counters_of p) cell
shown_first shape p ps r s cell e = cond-true (eqb p.r r && eqb p.s s) (counter_in (counters_of p) cell) (shown_by shape ps r s cell) e

shown_later : (shape : Shape) (p : Row) (ps : List Row) (r s : ℕ) (cell : Cell) → (eqb p.r r && eqb p.s s) ≡ false → shown_by shape (p ∷ ps) r s cell ≡ shown_by shape ps r s cell
shown_later shape p ps r s cell e = cond-false (eqb p.r r && eqb p.s s) (counter_in (counters_of p) cell) (shown_by shape ps r s cell) e

-- what a delta shows is one of its rows, or the start
pub shown_as : (P : (Cell → ℕ) → ℕ → ℕ → Type 0) (shape : Shape) → ((f g : Cell → ℕ) (r s : ℕ) → ((cell : Cell) → g cell ≡ f cell) → P f r s → P g r s) → (rows : List Row) → AllByRecursion (λ p. P (counter_in (counters_of p)) p.r p.s) rows → (r s : ℕ) → P (start_counter shape r s) r s → P (shown_by shape rows r s) r s
shown_as P shape along [] all r s start = start
shown_as P shape along (p ∷ ps) all r s start = at (cases_Bool (eqb p.r r && eqb p.s s)) (shown_as P shape along ps all.1 r s start)
  where
    at : ((eqb p.r r && eqb p.s s) ≡ true) ⊎ ((eqb p.r r && eqb p.s s) ≡ false) → P (shown_by shape ps r s) r s → P (shown_by shape (p ∷ ps) r s) r s
    at (inl e) later =
        let same = and_parts (eqb p.r r) (eqb p.s s) e in
        let here : P (counter_in (counters_of p)) r s =
        subst (λ (x : ℕ). P (counter_in (counters_of p)) r x) (eqb-true p.s s same.1)
        (subst (λ (x : ℕ). P (counter_in (counters_of p)) x p.s) (eqb-true p.r r same.0) all.0) in
        along (counter_in (counters_of p)) (shown_by shape (p ∷ ps) r s) r s (λ cell. shown_first shape p ps r s cell e) here
    at (inr e) later = along (shown_by shape ps r s) (shown_by shape (p ∷ ps) r s) r s (λ cell. shown_later shape p ps r s cell e) later

all_fit : (shape : Shape) (rows : List Row) → AllPass (is_valid shape) rows → AllByRecursion (λ p. FitsRow (grant shape p.r p.s) p.s (counter_in (counters_of p))) rows
all_fit shape [] valid = tt
all_fit shape (p ∷ ps) valid = (FitsRow-valid shape p valid.0, all_fit shape ps valid.1)

-- what valid rows show fits
pub FitsRow-shown : (shape : Shape) (rows : List Row) → AllPass (is_valid shape) rows → (r s : ℕ) → FitsRow (grant shape r s) s (shown_by shape rows r s)
FitsRow-shown shape rows valid r s =
    shown_as (λ f r2 s2. FitsRow (grant shape r2 s2) s2 f) shape
    (λ f g r2 s2 same fits. FitsRow-along (grant shape r2 s2) s2 f g same fits)
    rows (all_fit shape rows valid) r s (FitsRow-start shape r s)

-- a placed row's record and site are there, and it has no counter of a site that is not
pub placed_parts : (shape : Shape) (p : Row) → is_placed shape p ≡ true → (p.r < length shape.records) × ((p.s < length p.out) × (length p.out ≤ shape.sites))
placed_parts shape p e =
    let p0 = and_parts (ltb p.r (length shape.records)) (ltb p.s (length p.out) && leb (length p.out) shape.sites) e in
    let p1 = and_parts (ltb p.s (length p.out)) (leb (length p.out) shape.sites) p0.1 in
    (ltb-true p.r (length shape.records) p0.0, (ltb-true p.s (length p.out) p1.0, leb-true (length p.out) shape.sites p1.1))

-- past the records, and past the sites, rows show no more than the start
abbrev NoMore : Shape → (Cell → ℕ) → ℕ → ℕ → Type 0
NoMore shape f r s =
    (cell : Cell) → (length shape.records ≤ r) ⊎ (shape.sites ≤ s) → f cell ≤ start_counter shape r s cell

NoMore-along : (shape : Shape) (f g : Cell → ℕ) (r s : ℕ) → ((cell : Cell) → g cell ≡ f cell) → NoMore shape f r s → NoMore shape g r s
NoMore-along shape f g r s same more cell past = omega (arith, same cell, more cell past)

placed_NoMore : (shape : Shape) (p : Row) → is_placed shape p ≡ true → NoMore shape (counter_in (counters_of p)) p.r p.s
placed_NoMore shape p placed cell (inl past) = let parts = placed_parts shape p placed in absurd (omega (arith, parts.0))
placed_NoMore shape p placed cell (inr past) =
    let parts = placed_parts shape p placed in absurd (omega (arith, parts.1.0, parts.1.1))

all_NoMore : (shape : Shape) (rows : List Row) → AllPass (is_placed shape) rows → AllByRecursion (λ p. NoMore shape (counter_in (counters_of p)) p.r p.s) rows
all_NoMore shape [] placed = tt
all_NoMore shape (p ∷ ps) placed = (placed_NoMore shape p placed.0, all_NoMore shape ps placed.1)

shown_past : (shape : Shape) (rows : List Row) → AllPass (is_placed shape) rows → (r s : ℕ) → NoMore shape (shown_by shape rows r s) r s
shown_past shape rows placed r s =
    shown_as (NoMore shape) shape (NoMore-along shape) rows (all_NoMore shape rows placed) r s (λ c p. omega arith)

pub shown_past_records : (shape : Shape) (rows : List Row) → AllPass (is_placed shape) rows → (r s : ℕ) (cell : Cell) → length shape.records ≤ r → shown_by shape rows r s cell ≤ start_counter shape r s cell
shown_past_records shape rows placed r s cell past = shown_past shape rows placed r s cell (inl past)

pub shown_past_rows : (shape : Shape) (rows : List Row) → AllPass (is_placed shape) rows → (r s : ℕ) (cell : Cell) → shape.sites ≤ s → shown_by shape rows r s cell ≤ start_counter shape r s cell
shown_past_rows shape rows placed r s cell past = shown_past shape rows placed r s cell (inr past)

abbrev NoneBeyond : Shape → (Cell → ℕ) → ℕ → ℕ → Type 0
NoneBeyond shape f r s = (j : ℕ) → shape.sites ≤ j → f (Out j) ≤ start_counter shape r s (Out j)

NoneBeyond-along : (shape : Shape) (f g : Cell → ℕ) (r s : ℕ) → ((cell : Cell) → g cell ≡ f cell) → NoneBeyond shape f r s → NoneBeyond shape g r s
NoneBeyond-along shape f g r s same more j past = omega (arith, same (Out j), more j past)

all_NoneBeyond : (shape : Shape) (rows : List Row) → AllPass (is_placed shape) rows → AllByRecursion (λ p. NoneBeyond shape (counter_in (counters_of p)) p.r p.s) rows
all_NoneBeyond shape [] placed = tt
all_NoneBeyond shape (p ∷ ps) placed =
    let parts = placed_parts shape p placed.0 in
    ((λ j past. omega (arith, parts.1.1, get_or_past p.out j 0 (omega (arith, parts.1.1)))), all_NoneBeyond shape ps placed.1)

pub shown_past_sites : (shape : Shape) (rows : List Row) → AllPass (is_placed shape) rows → (r s j : ℕ) → shape.sites ≤ j → shown_by shape rows r s (Out j) ≤ start_counter shape r s (Out j)
shown_past_sites shape rows placed r s j past =
    shown_as (NoneBeyond shape) shape (NoneBeyond-along shape) rows (all_NoneBeyond shape rows placed) r s (λ k p. omega arith) j past

-- what rows show depends on a shape's records alone
pub shown_same : (shape other : Shape) → shape.records ≡ other.records → (rows : List Row) (r s : ℕ) (cell : Cell) → shown_by shape rows r s cell ≡ shown_by other rows r s cell
shown_same shape other same [] r s cell = ap (λ records. start_counter (record { sites = 0; records = records }) r s cell) same
shown_same shape other same (p ∷ ps) r s cell =
    ap (λ x. cond (eqb p.r r && eqb p.s s) (counter_in (counters_of p) cell) x) (shown_same shape other same ps r s cell)

-- a layout has as many records as its shape
pub records_number : (layout : LayoutState) → length (shape_of layout).records ≡ length layout.records
records_number layout = length-map layout.records record_shape
