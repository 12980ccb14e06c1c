-- The rows of counters as a delta: which counters make one that a book takes.
use Rattle.std.proofs.Common.{◌≡◌, ◌≢◌, ℕ, zero, suc, ◌+◌, ◌*◌, ◌^◌, ◌<◌, ◌≤◌, ◌⊎◌, inl, inr, Bool, true, false, ◌&&◌, eqb, List, [], ◌∷◌, ◌++◌, length, get_or, Option, Some, None, unwrap_or, refl, sym, ap, ◌∙◌, append_assoc, arith}
use Rattle.std.specs.List.{AllByRecursion}
use Rattle.std.proofs.lemmas.Bool.{cases_lt, cond_both, ne_eqb, and_left}
use Rattle.std.proofs.lemmas.List.{get_or-map, get_or_past}
use Rattle.merge_core.specs.declared.cell.Cell.{Cell}
use Rattle.merge_core.specs.declared.cell.Cell.TheVariants.{Out, Taken, Ann, Fin}
use Rattle.merge_core.specs.declared.delta.Row.{Row}
use Rattle.merge_core.specs.declared.layout.RecordSpec.{RecordSpec}
use Rattle.merge_core.specs.Layout.{LayoutState, IsLayout, Shape, RecordShape, shape_of, record_shape}
use Rattle.merge_core.specs.Delta.{IsRow, IsDelta}
use Rattle.merge_core.specs.Rows.{grant, start_counter, no_record}
use Rattle.merge_core.specs.Naming.{shown_by}
use Rattle.merge_core.specs.Tests.{is_placed, is_valid}
use Rattle.merge_core.specs.Check.{IsChecked}
use Rattle.merge_core.specs.Moved.{first_numbers, told_row, has_moved, row_if, moved_rows, all_moved}
use Rattle.grow_counters.specs.Counts.{counter_limit}
use Rattle.merge_core.proofs.MovedLemmas.{length-first_numbers, first_numbers-at, each_moved, IsRising-moved}
use Rattle.merge_core.proofs.ShownLemmas.{stands_at, shown_by-absent}
use Rattle.merge_core.proofs.TestLemmas.{IsValid, placed_from, valid_from}
use Rattle.admission_model.specs.Sound.{FitsRow}
use Rattle.admission_model.specs.Restoring.{slot_of}
use Rattle.admission_model.proofs.RowLemmas.{FitsRow-along, FitsRow-shown, AllPass, AllPass-from, first_failing-none, start_past, start_diagonal, start_elsewhere, shown_past_sites, records_number}
use Rattle.admission_model.proofs.SnapshotLemmas.{moved_show}
use Rattle.admission_core.specs.Restored.{value_in, value_if, counters_in}

-- ---- counters fit 64 bits

grant_fits : (layout : LayoutState) (r s : ℕ) → IsLayout layout → grant (shape_of layout) r s < 2 ^ 64
grant_fits layout r s is = at (cases_lt r (length layout.records))
  where
    d : RecordSpec
    d = record { name = []; seats = 0; home = 0; problem = 0 }

    at : (r < length layout.records) ⊎ (length layout.records ≤ r) → grant (shape_of layout) r s < 2 ^ 64
    at (inl below) =
        let seats : (get_or (shape_of layout).records r no_record).seats ≡ (get_or layout.records r d).seats =
        ap (λ (x : RecordShape). x.seats) (get_or-map record_shape layout.records r d no_record below) in
        let few = is.seats r d below in
        cond_both (eqb s (get_or (shape_of layout).records r no_record).home) (get_or (shape_of layout).records r no_record).seats 0 (λ x. x < 2 ^ 64) (λ e. omega (arith, few.1)) (λ e. omega arith)
    at (inr past) = omega (arith, start_past layout r s (Out s) past, start_diagonal (shape_of layout) r s)

start_fits : (layout : LayoutState) (r s : ℕ) (cell : Cell) → IsLayout layout → start_counter (shape_of layout) r s cell < 2 ^ 64
start_fits layout r s (Out j) is =
    cond_both (eqb j s) (grant (shape_of layout) r s) 0 (λ x. x < 2 ^ 64) (λ e. grant_fits layout r s is) (λ e. omega arith)
start_fits layout r s Taken is = omega arith
start_fits layout r s Ann is = omega arith
start_fits layout r s Fin is = omega arith

counters_fit : (layout : LayoutState) (i : ℕ) (table : List (Option ℕ)) → IsLayout layout → ((k : ℕ) → unwrap_or (get_or table k None) 0 < 2 ^ 64) → (r s : ℕ) (cell : Cell) → counters_in layout i table r s cell < 2 ^ 64
counters_fit layout i table is fits r s cell = at (slot_of layout.sites i s cell)
  where
    value : (o : Option ℕ) → unwrap_or o 0 < 2 ^ 64 → unwrap_or o (start_counter (shape_of layout) r s cell) < 2 ^ 64
    value None fit = start_fits layout r s cell is
    value (Some v) fit = fit

    at : (o : Option ℕ) → unwrap_or (value_if table r o) (start_counter (shape_of layout) r s cell) < 2 ^ 64
    at None = start_fits layout r s cell is
    at (Some slot) = value (value_in table r slot) (fits (r * 416 + slot))

all_fit : (n : ℕ) (f : ℕ → ℕ) → ((j : ℕ) → f j < 2 ^ 64) → AllByRecursion (λ x. x < 2 ^ 64) (first_numbers n f)
all_fit zero f fits = tt
all_fit (suc n) f fits = push (first_numbers n f) (all_fit n f fits)
  where
    push : (xs : List ℕ) → AllByRecursion (λ x. x < 2 ^ 64) xs → AllByRecursion (λ x. x < 2 ^ 64) (xs ++ f n ∷ [])
    push [] all = (fits n, tt)
    push (x ∷ xs) all = (all.0, push xs all.1)

-- the told rows are a delta
pub IsDelta-told : (layout : LayoutState) (i : ℕ) (counter : ℕ → ℕ → Cell → ℕ) → IsLayout layout → i < layout.sites → ((r s : ℕ) (cell : Cell) → counter r s cell < 2 ^ 64) → IsDelta (record { from = i; rows = all_moved (shape_of layout) counter })
IsDelta-told layout i counter is there fits = record {
  from_site = omega (arith, is.few_sites);
  rising = IsRising-moved (shape_of layout) counter;
  rows = each_moved (shape_of layout) counter IsRow (λ r s below site. record {
    record_number = omega (arith, is.few_records, records_number layout);
    site_number = omega (arith, is.few_sites);
    some_sites = omega (arith, is.some_sites, length-first_numbers layout.sites (λ j. counter r s (Out j)));
    few_sites = omega (arith, is.few_sites, length-first_numbers layout.sites (λ j. counter r s (Out j)));
    out_fits = all_fit layout.sites (λ j. counter r s (Out j)) (λ j. fits r s (Out j));
    taken_fits = fits r s Taken;
    ann_fits = fits r s Ann;
    fin_fits = fits r s Fin;
  });
}

pub IsDelta-table : (layout : LayoutState) (i : ℕ) (table : List (Option ℕ)) → IsLayout layout → i < layout.sites → ((k : ℕ) → unwrap_or (get_or table k None) 0 < 2 ^ 64) → IsDelta (record { from = i; rows = all_moved (shape_of layout) (counters_in layout i table) })
IsDelta-table layout i table is there fits =
    IsDelta-told layout i (counters_in layout i table) is there (counters_fit layout i table is fits)

-- a row more
pub pushed : (shape : Shape) (counter : ℕ → ℕ → Cell → ℕ) (r s : ℕ) (first now new : List Row) → now ≡ first ++ moved_rows shape counter r s → new ≡ now ++ row_if (has_moved shape counter r s) (told_row shape.sites counter r s) → new ≡ first ++ moved_rows shape counter r (s + 1)
pushed shape counter r s first now new is more =
    let next : s + 1 ≡ suc s = omega arith in
    more
    ∙ (ap (λ xs. xs ++ row_if (has_moved shape counter r s) (told_row shape.sites counter r s)) is
    ∙ (append_assoc first (moved_rows shape counter r s) (row_if (has_moved shape counter r s) (told_row shape.sites counter r s))
    ∙ ap (λ k. first ++ moved_rows shape counter r k) (sym next)))

-- ---- what the told rows show

-- counters of records and sites that are not there are at their start
pub record StartBeyond (layout : LayoutState) (counter : ℕ → ℕ → Cell → ℕ) : Type 0 where
  pub records : (r s : ℕ) (cell : Cell) → length layout.records ≤ r → counter r s cell ≡ start_counter (shape_of layout) r s cell
  pub rows : (r s : ℕ) (cell : Cell) → layout.sites ≤ s → counter r s cell ≡ start_counter (shape_of layout) r s cell
  pub columns : (r s j : ℕ) → layout.sites ≤ j → counter r s (Out j) ≡ start_counter (shape_of layout) r s (Out j)

module _ (layout : LayoutState) (counter : ℕ → ℕ → Cell → ℕ) (beyond : StartBeyond layout counter) where
  abbrev rows : List Row
  rows = all_moved (shape_of layout) counter

  placed : AllPass (is_placed (shape_of layout)) rows
  placed =
      each_moved (shape_of layout) counter (λ p. is_placed (shape_of layout) p ≡ true) (λ r s below site.
      placed_from (shape_of layout) (told_row layout.sites counter r s) (record {
        record_there = below;
        own_there = omega (arith, length-first_numbers layout.sites (λ j. counter r s (Out j)));
        few_sites = omega (arith, length-first_numbers layout.sites (λ j. counter r s (Out j)));
      }))

  absent : (r s : ℕ) (cell : Cell) → (length (shape_of layout).records ≤ r) ⊎ (layout.sites ≤ s) → shown_by (shape_of layout) rows r s cell ≡ start_counter (shape_of layout) r s cell
  absent r s cell past =
      shown_by-absent (shape_of layout) rows r s cell
      (each_moved (shape_of layout) counter (λ p. stands_at p r s ≡ false) (λ r2 s2 below site. at r2 s2 below site past))
    where
      and_false : (a b : Bool) → b ≡ false → (a && b) ≡ false
      and_false true b x = x
      and_false false b x = refl

      at : (r2 s2 : ℕ) → r2 < length (shape_of layout).records → s2 < layout.sites → (length (shape_of layout).records ≤ r) ⊎ (layout.sites ≤ s) → (eqb r2 r && eqb s2 s) ≡ false
      at r2 s2 below site (inl high) = and_left (eqb r2 r) (eqb s2 s) (ne_eqb r2 r (λ e. absurd (omega arith)))
      at r2 s2 below site (inr high) = and_false (eqb r2 r) (eqb s2 s) (ne_eqb s2 s (λ e. absurd (omega arith)))

  pub shown_counter : (r s : ℕ) (cell : Cell) → shown_by (shape_of layout) rows r s cell ≡ counter r s cell
  shown_counter r s cell = at cell (cases_lt r (length (shape_of layout).records)) (cases_lt s layout.sites)
    where
      column : (j : ℕ) → r < length (shape_of layout).records → s < layout.sites → (j < layout.sites) ⊎ (layout.sites ≤ j) → shown_by (shape_of layout) rows r s (Out j) ≡ counter r s (Out j)
      column j below site (inl lower) = moved_show (shape_of layout) counter r s (Out j) below site lower
      column j below site (inr past) =
          let nothing = start_elsewhere (shape_of layout) r s j (λ e. absurd (omega arith)) in
          omega (arith, shown_past_sites (shape_of layout) rows placed r s j past, beyond.columns r s j past)

      at : (c : Cell) → (r < length (shape_of layout).records) ⊎ (length (shape_of layout).records ≤ r) → (s < layout.sites) ⊎ (layout.sites ≤ s) → shown_by (shape_of layout) rows r s c ≡ counter r s c
      at c (inr past) other = absent r s c (inl past) ∙ sym (beyond.records r s c (omega (arith, records_number layout)))
      at c (inl below) (inr past) = absent r s c (inr past) ∙ sym (beyond.rows r s c past)
      at (Out j) (inl below) (inl site) = column j below site (cases_lt j layout.sites)
      at Taken (inl below) (inl site) = moved_show (shape_of layout) counter r s Taken below site tt
      at Ann (inl below) (inl site) = moved_show (shape_of layout) counter r s Ann below site tt
      at Fin (inl below) (inl site) = moved_show (shape_of layout) counter r s Fin below site tt

  -- a book takes the rows where each fits ..
  pub fits_from : IsChecked (shape_of layout) rows → (r s : ℕ) → FitsRow (grant (shape_of layout) r s) s (counter r s)
  fits_from checked r s =
      FitsRow-along (grant (shape_of layout) r s) s (shown_by (shape_of layout) rows r s) (counter r s) (λ cell. sym (shown_counter r s cell))
      (FitsRow-shown (shape_of layout) rows (AllPass-from (is_valid (shape_of layout)) rows checked.valid) r s)

  -- .. and only there
  pub checked_from : ((r s : ℕ) → FitsRow (grant (shape_of layout) r s) s (counter r s)) → IsChecked (shape_of layout) rows
  checked_from fits = record {
    placed = first_failing-none (is_placed (shape_of layout)) rows placed;
    valid = first_failing-none (is_valid (shape_of layout)) rows
        (each_moved (shape_of layout) counter (λ p. is_valid (shape_of layout) p ≡ true) (λ r s below site.
        valid_from (shape_of layout) (told_row layout.sites counter r s) (valid r s site)));
  }
    where
      valid : (r s : ℕ) → s < layout.sites → IsValid (shape_of layout) (told_row layout.sites counter r s)
      valid r s site =
          let own = first_numbers-at layout.sites (λ j. counter r s (Out j)) s site in
          record {
            kept_grant = omega (arith, own, (fits r s).grant_kept);
            left_after_taken = omega (arith, own, (fits r s).returned_after_taken);
            few_taken = (fits r s).few_taken;
            few_moved = λ j apart. moved j apart (cases_lt j layout.sites);
            finished_after_announced = (fits r s).finished_after_announced;
            few_announced = (fits r s).few_announced;
          }
        where
          moved : (j : ℕ) → j ≢ s → (j < layout.sites) ⊎ (layout.sites ≤ j) → get_or (first_numbers layout.sites (λ k. counter r s (Out k))) j 0 ≤ counter_limit
          moved j apart (inl lower) = omega (arith, first_numbers-at layout.sites (λ k. counter r s (Out k)) j lower, (fits r s).few_moved j apart)
          moved j apart (inr past) =
              omega (arith, get_or_past (first_numbers layout.sites (λ k. counter r s (Out k))) j 0 (omega (arith, length-first_numbers layout.sites (λ k. counter r s (Out k)))))
