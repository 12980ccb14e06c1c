-- The start is sound.
use Rattle.std.proofs.Common.{◌≡◌, ℕ, ◌<◌, ◌≤◌, ◌⊎◌, inl, inr, [], length, get_or, refl, ap, arith}
use Rattle.std.proofs.lemmas.Bool.{cases_lt}
use Rattle.std.proofs.lemmas.List.{get_or_past, get_or-map, length-map}
use Rattle.merge_core.specs.declared.cell.Cell.{Cell}
use Rattle.merge_core.specs.declared.cell.Cell.TheVariants.{Out}
use Rattle.admission_model.specs.Knowledge.{told}
use Rattle.merge_core.specs.declared.layout.RecordSpec.{RecordSpec}
use Rattle.merge_core.specs.Layout.{LayoutState, IsLayout, RecordShape, shape_of, record_shape}
use Rattle.merge_core.specs.Rows.{grant, start_counter, no_record}
use Rattle.merge_core.specs.Sums.{total}
use Rattle.admission_model.specs.Account.{start_origin, begin, seats_in}
use Rattle.admission_model.specs.Sound.{IsSound}
use Rattle.merge_core.proofs.SumLemmas.{total_only, total_others_same, total_others_zero}
use Rattle.admission_model.proofs.CounterLemmas.{spent_own}
use Rattle.admission_model.proofs.RowLemmas.{FitsRow-start, start_diagonal, start_elsewhere, start_past}
use Rattle.admission_model.proofs.HeardLemmas.{FitsRow-kept, kept_yes, kept_row, kept_most}

pub sound_start : (layout : LayoutState) (i : ℕ) → i < layout.sites → IsSound (begin (start_origin layout i))
sound_start layout i below = record {
  site_there = below;
  listed_once = λ r h p there. cc;
  record_there = λ r h p there. cc;
  holder_there = λ r h p there. cc;
  balanced = λ r. record {
    affordable = omega (
      arith,
      spent_own (begin (start_origin layout i)) r,
      total_others_same layout.sites i (λ j. start_counter (shape_of layout) r i (Out j)) (λ j. 0) (λ j lower apart. start_elsewhere (shape_of layout) r i j apart),
      total_others_zero layout.sites i (λ j. 0) (λ j. refl),
    );
    seats = omega (arith, start_diagonal (shape_of layout) r i);
    writers = refl;
    few_writers = omega arith;
    fits = FitsRow-start (shape_of layout) r i;
  };
  told_fits = λ r s. FitsRow-kept (start_origin layout i) (start_counter (shape_of layout)) r s (FitsRow-start (shape_of layout) r s);
  told_after_done = λ r cell. omega (arith, kept_yes (start_origin layout i) (start_counter (shape_of layout)) r i cell (kept_row i cell));
  no_others = record {
    none_sent = λ r j past. start_elsewhere (shape_of layout) r i j (λ e. absurd (omega arith));
    none_told = λ r s cell past. none r s cell;
    none_told_sent = λ r s j past. none r s (Out j);
  };
  no_other_records = record {
    none_done = λ r cell past. start_past layout r i cell past;
    none_heard = λ r s cell past. omega (arith, none r s cell, start_past layout r s cell past);
  };
}
  where
    none : (r s : ℕ) (cell : Cell) → told (begin (start_origin layout i)) r s cell ≤ start_counter (shape_of layout) r s cell
    none r s cell = kept_most (start_origin layout i) (start_counter (shape_of layout)) r s cell (omega arith)

-- the record's shape, whether it is there or not
pub shape_at : (layout : LayoutState) (r : ℕ) (d : RecordSpec) → r < length layout.records → get_or (shape_of layout).records r no_record ≡ record_shape (get_or layout.records r d)
shape_at layout r d below = get_or-map record_shape layout.records r d no_record below

home_there : (layout : LayoutState) → IsLayout layout → (r : ℕ) → (get_or (shape_of layout).records r no_record).home < layout.sites
home_there layout is r = at (cases_lt r (length layout.records))
  where
    d : RecordSpec
    d = record { name = []; seats = 0; home = 0; problem = 0 }

    at : (r < length layout.records) ⊎ (length layout.records ≤ r) → (get_or (shape_of layout).records r no_record).home < layout.sites
    at (inl below) =
        let e : (get_or (shape_of layout).records r no_record).home ≡ (get_or layout.records r d).home = ap (λ (x : RecordShape). x.home) (shape_at layout r d below) in
        let here = is.homes r d below in
        omega arith
    at (inr past) =
        let e : (get_or (shape_of layout).records r no_record).home ≡ 0 = ap (λ (x : RecordShape). x.home) (get_or_past (shape_of layout).records r no_record (omega (arith, length-map layout.records record_shape))) in
        omega (arith, is.some_sites)

-- all grants of a record together are its seats
pub grants_total : (layout : LayoutState) → IsLayout layout → (r : ℕ) → total layout.sites (λ i. grant (shape_of layout) r i) ≡ seats_in layout r
grants_total layout is r =
    total_only layout.sites (get_or (shape_of layout).records r no_record).home (seats_in layout r) (home_there layout is r)

pub some_seats : (layout : LayoutState) → IsLayout layout → (r : ℕ) → r < length layout.records → 1 ≤ seats_in layout r
some_seats layout is r below =
    let d : RecordSpec = record { name = []; seats = 0; home = 0; problem = 0 } in
    let e : seats_in layout r ≡ (get_or layout.records r d).seats = ap (λ (x : RecordShape). x.seats) (shape_at layout r d below) in
    let here = is.seats r d below in
    omega arith
