-- A site without sessions may begin from counters that agree.
use Rattle.std.proofs.Common.{◌≡◌, ◌≢◌, ℕ, ◌+◌, ◌<◌, ◌≤◌, ◌⊎◌, inl, inr, cond, eqb, [], length, arith}
use Rattle.std.proofs.lemmas.Bool.{cases_eq, eq-eqb, ne_eqb, cond-true, cond-false}
use Rattle.merge_core.specs.declared.cell.Cell.{Cell}
use Rattle.merge_core.specs.declared.cell.Cell.TheVariants.{Out, Taken, Ann, Fin}
use Rattle.merge_core.specs.Layout.{LayoutState, shape_of}
use Rattle.merge_core.specs.Rows.{grant, start_counter}
use Rattle.merge_core.specs.Sums.{total_others}
use Rattle.merge_core.proofs.SumLemmas.{total_le, total_others_same}
use Rattle.admission_model.specs.Account.{Origin, begin}
use Rattle.admission_model.specs.Knowledge.{told}
use Rattle.admission_model.specs.Sound.{FitsRow, IsSound}
use Rattle.admission_model.proofs.CounterLemmas.{gained_own, spent_own}
use Rattle.admission_model.proofs.RowLemmas.{start_past}
use Rattle.admission_model.proofs.HeardLemmas.{FitsRow-kept, kept_yes, kept_row, kept_column, kept_most}

-- a sum over others is below another where each number is
pub others_le : (n i : ℕ) (f g : ℕ → ℕ) → ((j : ℕ) → j < n → j ≢ i → f j ≤ g j) → total_others n i f ≤ total_others n i g
others_le n i f g h = total_le n (λ j. cond (eqb j i) 0 (f j)) (λ j. cond (eqb j i) 0 (g j)) (λ j below. at j below (cases_eq j i))
  where
    at : (j : ℕ) → j < n → (j ≡ i) ⊎ (j ≡ i → ⊥) → cond (eqb j i) 0 (f j) ≤ cond (eqb j i) 0 (g j)
    at j below (inl e) = omega (arith, cond-true {A = ℕ} (eqb j i) 0 (f j) (eq-eqb j i e), cond-true {A = ℕ} (eqb j i) 0 (g j) (eq-eqb j i e))
    at j below (inr ne) = omega (arith, h j below ne, cond-false {A = ℕ} (eqb j i) 0 (f j) (ne_eqb j i ne), cond-false {A = ℕ} (eqb j i) 0 (g j) (ne_eqb j i ne))

-- counters from which a site without sessions may begin
pub record IsIdle (layout : LayoutState) (d : ℕ) (counters : ℕ → ℕ → Cell → ℕ) : Type 0 where
  pub there : d < layout.sites
  pub fits : (r s : ℕ) → FitsRow (grant (shape_of layout) r s) s (counters r s)
  pub none_inside : (r : ℕ) → counters r d Taken + grant (shape_of layout) r d ≡ counters r d (Out d)
  pub none_unfinished : (r : ℕ) → counters r d Ann ≡ counters r d Fin
  pub affordable : (r : ℕ) → total_others layout.sites d (λ j. counters r d (Out j)) ≤ grant (shape_of layout) r d + total_others layout.sites d (λ j. counters r j (Out d))
  pub none_sent : (r j : ℕ) → layout.sites ≤ j → counters r d (Out j) ≡ 0
  pub none_told : (r s : ℕ) (cell : Cell) → layout.sites ≤ s → counters r s cell ≤ start_counter (shape_of layout) r s cell
  pub none_told_sent : (r s j : ℕ) → layout.sites ≤ j → counters r s (Out j) ≤ start_counter (shape_of layout) r s (Out j)
  pub no_records : (r s : ℕ) (cell : Cell) → length layout.records ≤ r → counters r s cell ≡ 0

abbrev pub idle_origin : LayoutState → ℕ → (ℕ → ℕ → Cell → ℕ) → Origin
idle_origin layout d counters = record { layout = layout; site = d; base = record { counters = counters; sessions = [] } }

pub sound_idle : (layout : LayoutState) (d : ℕ) (counters : ℕ → ℕ → Cell → ℕ) → IsIdle layout d counters → IsSound (begin (idle_origin layout d counters))
sound_idle layout d counters is = record {
  site_there = is.there;
  listed_once = λ r h p there. cc;
  record_there = λ r h p there. cc;
  holder_there = λ r h p there. cc;
  balanced = λ r. record {
    affordable = omega (
      arith,
      spent_own (begin o) r,
      gained_own (begin o) r is.there,
      is.affordable r,
      is.none_inside r,
      total_others_same layout.sites d (λ j. told (begin o) r j (Out d)) (λ j. counters r j (Out d)) (λ j below apart. kept_yes o counters r j (Out d) (kept_column d j)),
    );
    seats = omega (arith, is.none_inside r);
    writers = omega (arith, is.none_unfinished r);
    few_writers = omega arith;
    fits = is.fits r d;
  };
  told_fits = λ r s. FitsRow-kept o counters r s (is.fits r s);
  told_after_done = λ r cell. omega (arith, kept_yes o counters r d cell (kept_row d cell));
  no_others = record {
    none_sent = λ r j past. is.none_sent r j past;
    none_told = λ r s cell past. kept_most o counters r s cell (is.none_told r s cell past);
    none_told_sent = λ r s j past. kept_most o counters r s (Out j) (is.none_told_sent r s j past);
  };
  no_other_records = record {
    none_done = λ r cell past. is.no_records r d cell past;
    none_heard = λ r s cell past.
        omega (arith, kept_most o counters r s cell (omega (arith, is.no_records r s cell past)), start_past layout r s cell past);
  };
}
  where
    o : Origin
    o = idle_origin layout d counters
