-- What a delta and a restart leave: counters and sessions that agree.
use Rattle.std.proofs.Common.{◌≡◌, ◌≢◌, ℕ, ◌+◌, ◌<◌, ◌≤◌, ◌⊎◌, inl, inr, true, false, cond, eqb, ltb, List, length, None, refl, sym, subst, arith}
use Rattle.std.proofs.lemmas.Bool.{cases_eq, cases_lt, cond_both, eq-eqb, ne_eqb, ltb-false, or_left, or_right, or_from, cond-true, cond-false}
use Rattle.merge_core.specs.declared.cell.Cell.{Cell}
use Rattle.merge_core.specs.declared.cell.Cell.TheVariants.{Out, Taken, Ann, Fin}
use Rattle.merge_core.specs.declared.delta.Row.{Row}
use Rattle.merge_core.specs.Layout.{shape_of}
use Rattle.merge_core.specs.Counts.{counter_limit}
use Rattle.merge_core.specs.Rows.{grant, start_counter}
use Rattle.merge_core.specs.Naming.{shown_by}
use Rattle.merge_core.specs.Sums.{total_others}
use Rattle.admission_model.specs.Account.{Origin, Account, layout_of, own, inside}
use Rattle.merge_core.specs.Changes.{keeps_counter}
use Rattle.admission_model.specs.Knowledge.{kept_or_start, told, known, hears, restarted, grown}
use Rattle.admission_model.specs.View.{view_of, gained, spent, rights_of}
use Rattle.merge_core.specs.Tests.{is_placed, is_valid}
use Rattle.admission_model.specs.Merging.{first_ahead, tells_too_much}
use Rattle.admission_model.specs.Sound.{FitsRow, IsSound}
use Rattle.merge_core.proofs.SumLemmas.{total_le, total_others_same}
use Rattle.admission_model.proofs.SumLemmas.{total_others_more}
use Rattle.admission_model.proofs.CounterLemmas.{known_own, known_other, gained_own, spent_own}
use Rattle.admission_model.proofs.RowLemmas.{AllPass, FitsRow-along, FitsRow-max, FitsRow-shown, start_below, start_diagonal, start_elsewhere, start_past, shown_past_records, shown_past_rows, shown_past_sites, shown_same, records_number, number_of_cells-zero}
use Rattle.admission_model.proofs.LeastLemmas.{least_below-none}

total_others_le : (n i : ℕ) (f g : ℕ → ℕ) → ((j : ℕ) → j ≢ i → f j ≤ g j) → total_others n i f ≤ total_others n i g
total_others_le n i f g h = total_le n (λ j. cond (eqb j i) 0 (f j)) (λ j. cond (eqb j i) 0 (g j)) (λ j below. at j (cases_eq j i))
  where
    at : (j : ℕ) → (j ≡ i) ⊎ (j ≡ i → ⊥) → cond (eqb j i) 0 (f j) ≤ cond (eqb j i) 0 (g j)
    at j (inl e) = omega (arith, cond-true {A = ℕ} (eqb j i) 0 (f j) (eq-eqb j i e), cond-true {A = ℕ} (eqb j i) 0 (g j) (eq-eqb j i e))
    at j (inr ne) = omega (arith, h j ne, cond-false {A = ℕ} (eqb j i) 0 (f j) (ne_eqb j i ne), cond-false {A = ℕ} (eqb j i) 0 (g j) (ne_eqb j i ne))

not_counted : (n : ℕ) → ltb 0 n ≡ false → n ≡ 0
not_counted n e = omega (arith, ltb-false 0 n e)

-- rows that are not ahead show no more of the site's own row than it did
pub shown_own : (a : Account) (rows : List Row) → IsSound a → AllPass (is_placed (shape_of (layout_of a))) rows → first_ahead (view_of a) rows ≡ None → (r : ℕ) (cell : Cell) → shown_by (shape_of (layout_of a)) rows r a.origin.site cell ≤ own a r cell
shown_own a rows sound placed behind r cell = at cell (cases_lt r (length a.origin.layout.records))
  where
    shown : Cell → ℕ
    shown c = shown_by (shape_of (layout_of a)) rows r a.origin.site c

    start_low : (c : Cell) → start_counter (shape_of a.origin.layout) r a.origin.site c ≤ own a r c
    start_low c = start_below (shape_of a.origin.layout) r a.origin.site (own a r) (sound.balanced r).fits c

    quiet : r < length a.origin.layout.records → ((j : ℕ) → j < a.sites → ltb (known a r a.origin.site (Out j)) (shown_by (shape_of (layout_of a)) rows r a.origin.site (Out j)) ≡ false) × ((ltb (known a r a.origin.site Taken) (shown_by (shape_of (layout_of a)) rows r a.origin.site Taken) ≡ false) × ((ltb (known a r a.origin.site Ann) (shown_by (shape_of (layout_of a)) rows r a.origin.site Ann) ≡ false) × (ltb (known a r a.origin.site Fin) (shown_by (shape_of (layout_of a)) rows r a.origin.site Fin) ≡ false)))
    quiet below =
        number_of_cells-zero (a.sites) (λ c. ltb (known a r a.origin.site c) (shown_by (shape_of (layout_of a)) rows r a.origin.site c))
        (not_counted _ (least_below-none (length a.origin.layout.records) (tells_too_much (view_of a) rows) behind r below))

    out : (j : ℕ) → r < length a.origin.layout.records → (j < a.sites) ⊎ (a.sites ≤ j) → shown_by (shape_of (layout_of a)) rows r a.origin.site (Out j) ≤ own a r (Out j)
    out j below (inl lower) = omega (arith, known_own a r (Out j), ltb-false (known a r a.origin.site (Out j)) (shown_by (shape_of (layout_of a)) rows r a.origin.site (Out j)) ((quiet below).0 j lower))
    out j below (inr past) = omega (arith, shown_past_sites (shape_of (layout_of a)) rows placed r a.origin.site j past, start_low (Out j))

    at : (c : Cell) → (r < length a.origin.layout.records) ⊎ (length a.origin.layout.records ≤ r) → shown_by (shape_of (layout_of a)) rows r a.origin.site c ≤ own a r c
    at c (inr past) = omega (arith, shown_past_records (shape_of (layout_of a)) rows placed r a.origin.site c (omega (arith, past, records_number a.origin.layout)), start_low c)
    at (Out j) (inl below) = out j below (cases_lt j (a.sites))
    at Taken (inl below) = omega (arith, known_own a r Taken, ltb-false (known a r a.origin.site Taken) (shown_by (shape_of (layout_of a)) rows r a.origin.site Taken) (quiet below).1.0)
    at Ann (inl below) = omega (arith, known_own a r Ann, ltb-false (known a r a.origin.site Ann) (shown_by (shape_of (layout_of a)) rows r a.origin.site Ann) (quiet below).1.1.0)
    at Fin (inl below) = omega (arith, known_own a r Fin, ltb-false (known a r a.origin.site Fin) (shown_by (shape_of (layout_of a)) rows r a.origin.site Fin) (quiet below).1.1.1)

pub sound_hears : (a : Account) (rows : List Row) → IsSound a → AllPass (is_placed (shape_of (layout_of a))) rows → AllPass (is_valid (shape_of (layout_of a))) rows → first_ahead (view_of a) rows ≡ None → IsSound (hears a rows)
sound_hears a rows sound placed valid behind = record {
  site_there = sound.site_there;
  listed_once = sound.listed_once;
  record_there = sound.record_there;
  holder_there = sound.holder_there;
  balanced = λ r. record {
    affordable = omega (
      arith,
      (sound.balanced r).affordable,
      spent_own (hears a rows) r,
      spent_own a r,
      gained_own (hears a rows) r sound.site_there,
      gained_own a r sound.site_there,
      total_others_le (a.sites) a.origin.site (λ j. told a r j (Out a.origin.site)) (λ j. told (hears a rows) r j (Out a.origin.site)) (λ j apart. omega arith),
    );
    seats = (sound.balanced r).seats;
    writers = (sound.balanced r).writers;
    few_writers = (sound.balanced r).few_writers;
    fits = (sound.balanced r).fits;
  };
  told_fits = λ r s. FitsRow-max (grant (shape_of a.origin.layout) r s) s (told a r s) (shown_by (shape_of a.origin.layout) rows r s) (sound.told_fits r s) (FitsRow-along (grant (shape_of a.origin.layout) r s) s (shown_by (shape_of (layout_of a)) rows r s) (shown_by (shape_of a.origin.layout) rows r s) (shown_here r s) (FitsRow-shown (shape_of (layout_of a)) rows valid r s));
  told_after_done = λ r cell. omega (arith, sound.told_after_done r cell, shown_here r a.origin.site cell, shown_own a rows sound placed behind r cell);
  no_others = record {
    none_sent = sound.no_others.none_sent;
    none_told = λ r s cell past. omega (arith, sound.no_others.none_told r s cell past, shown_here r s cell, shown_past_rows (shape_of (layout_of a)) rows placed r s cell past);
    none_told_sent = λ r s j past. omega (arith, sound.no_others.none_told_sent r s j past, shown_here r s (Out j), shown_past_sites (shape_of (layout_of a)) rows placed r s j past);
  };
  no_other_records = record {
    none_done = sound.no_other_records.none_done;
    none_heard = λ r s cell past.
        omega (
          arith,
          sound.no_other_records.none_heard r s cell past,
          shown_here r s cell,
          shown_past_records (shape_of (layout_of a)) rows placed r s cell (omega (arith, records_number a.origin.layout)),
          start_past a.origin.layout r s cell past,
        );
  };
}
  where
    shown_here : (r s : ℕ) (cell : Cell) → shown_by (shape_of a.origin.layout) rows r s cell ≡ shown_by (shape_of (layout_of a)) rows r s cell
    shown_here r s cell = shown_same (shape_of a.origin.layout) (shape_of (layout_of a)) refl rows r s cell

pub kept_column : (i s : ℕ) → keeps_counter i s (Out i) ≡ true
kept_column i s = or_right (eqb s i) (eqb i i) (eq-eqb i i refl)

-- the site's own row
own_row_kept : (i s : ℕ) (cell : Cell) → s ≡ i → keeps_counter i s cell ≡ true
own_row_kept i s (Out j) e = or_left (eqb s i) (eqb j i) (eq-eqb s i e)
own_row_kept i s Taken e = eq-eqb s i e
own_row_kept i s Ann e = refl
own_row_kept i s Fin e = refl

pub kept_row : (i : ℕ) (cell : Cell) → keeps_counter i i cell ≡ true
kept_row i cell = own_row_kept i i cell refl

pub kept_yes : (o : Origin) (f : ℕ → ℕ → Cell → ℕ) (r s : ℕ) (cell : Cell) → keeps_counter o.site s cell ≡ true → kept_or_start o f r s cell ≡ f r s cell
kept_yes o f r s cell e = cond-true (keeps_counter o.site s cell) (f r s cell) (start_counter (shape_of o.layout) r s cell) e

pub kept_no : (o : Origin) (f : ℕ → ℕ → Cell → ℕ) (r s : ℕ) (cell : Cell) → keeps_counter o.site s cell ≡ false → kept_or_start o f r s cell ≡ start_counter (shape_of o.layout) r s cell
kept_no o f r s cell e = cond-false (keeps_counter o.site s cell) (f r s cell) (start_counter (shape_of o.layout) r s cell) e

-- rows that fit still fit when they are cut to what is kept
pub FitsRow-kept : (o : Origin) (f : ℕ → ℕ → Cell → ℕ) (r s : ℕ) → FitsRow (grant (shape_of o.layout) r s) s (f r s) → FitsRow (grant (shape_of o.layout) r s) s (kept_or_start o f r s)
FitsRow-kept o f r s fits = at (cases_eq s o.site)
  where
    at : (s ≡ o.site) ⊎ (s ≡ o.site → ⊥) → FitsRow (grant (shape_of o.layout) r s) s (kept_or_start o f r s)
    at (inl e) =
        FitsRow-along (grant (shape_of o.layout) r s) s (f r s) (kept_or_start o f r s)
        (λ cell. kept_yes o f r s cell (own_row_kept o.site s cell e)) fits
    at (inr ne) =
        let diagonal = kept_no o f r s (Out s) (or_from (eqb s o.site) (eqb s o.site) (ne_eqb s o.site ne) (ne_eqb s o.site ne)) in
        let none_taken = kept_no o f r s Taken (ne_eqb s o.site ne) in
        record {
          grant_kept = omega (arith, start_diagonal (shape_of o.layout) r s);
          returned_after_taken = omega (arith, start_diagonal (shape_of o.layout) r s);
          few_taken = omega (arith, none_taken);
          few_moved = λ j apart. moved j apart (cases_eq j o.site);
          finished_after_announced = omega (arith, fits.finished_after_announced);
          few_announced = omega (arith, fits.few_announced);
        }
      where
        moved : (j : ℕ) → j ≢ s → (j ≡ o.site) ⊎ (j ≡ o.site → ⊥) → kept_or_start o f r s (Out j) ≤ counter_limit
        moved j apart (inl here) =
            omega (arith, fits.few_moved j apart, kept_yes o f r s (Out j) (or_right (eqb s o.site) (eqb j o.site) (eq-eqb j o.site here)))
        moved j apart (inr there) =
            omega (arith, start_elsewhere (shape_of o.layout) r s j apart, kept_no o f r s (Out j) (or_from (eqb s o.site) (eqb j o.site) (ne_eqb s o.site ne) (ne_eqb j o.site there)))

-- what is kept is no more than it was, or the start
pub kept_most : (o : Origin) (f : ℕ → ℕ → Cell → ℕ) (r s : ℕ) (cell : Cell) → f r s cell ≤ start_counter (shape_of o.layout) r s cell → kept_or_start o f r s cell ≤ start_counter (shape_of o.layout) r s cell
kept_most o f r s cell most =
    cond_both (keeps_counter o.site s cell) (f r s cell) (start_counter (shape_of o.layout) r s cell) (λ x. x ≤ start_counter (shape_of o.layout) r s cell) (λ e. most) (λ e. omega arith)

-- rights under more sites: of those that were not known nothing was sent, and nothing was sent to them
gained_grown : (a : Account) (n r : ℕ) → IsSound a → a.sites ≤ n → gained (view_of (grown n a)) r ≡ gained (view_of a) r
gained_grown a n r sound more =
    omega (
      arith,
      gained_own (grown n a) r (omega (arith, sound.site_there)),
      gained_own a r sound.site_there,
      total_others_more a.sites n a.origin.site (λ j. told (grown n a) r j (Out a.origin.site)) more (λ j past apart. nothing j past apart),
      total_others_same a.sites a.origin.site (λ j. told (grown n a) r j (Out a.origin.site)) (λ j. told a r j (Out a.origin.site)) (λ j below apart. column j),
    )
  where
    column : (j : ℕ) → told (grown n a) r j (Out a.origin.site) ≡ told a r j (Out a.origin.site)
    column j = kept_yes a.origin (told a) r j (Out a.origin.site) (kept_column a.origin.site j)

    nothing : (j : ℕ) → a.sites ≤ j → j ≢ a.origin.site → told (grown n a) r j (Out a.origin.site) ≡ 0
    nothing j past apart =
        omega (arith, column j, sound.no_others.none_told r j (Out a.origin.site) past, start_elsewhere (shape_of a.origin.layout) r j a.origin.site (λ e. apart (sym e)))

spent_grown : (a : Account) (n r : ℕ) → IsSound a → a.sites ≤ n → spent (view_of (grown n a)) r ≡ spent (view_of a) r
spent_grown a n r sound more =
    omega (
      arith,
      spent_own (grown n a) r,
      spent_own a r,
      total_others_more a.sites n a.origin.site (λ j. own a r (Out j)) more (λ j past apart. sound.no_others.none_sent r j past),
    )

pub sound_grown : (a : Account) (n : ℕ) → a.sites ≤ n → IsSound a → IsSound (grown n a)
sound_grown a n more sound = record {
  site_there = omega (arith, sound.site_there);
  listed_once = sound.listed_once;
  record_there = sound.record_there;
  holder_there = sound.holder_there;
  balanced = λ r. record {
    affordable = omega (arith, (sound.balanced r).affordable, gained_grown a n r sound more, spent_grown a n r sound more);
    seats = (sound.balanced r).seats;
    writers = (sound.balanced r).writers;
    few_writers = (sound.balanced r).few_writers;
    fits = (sound.balanced r).fits;
  };
  told_fits = λ r s. FitsRow-kept a.origin (told a) r s (sound.told_fits r s);
  told_after_done = λ r cell. omega (arith, sound.told_after_done r cell, kept_yes a.origin (told a) r a.origin.site cell (kept_row a.origin.site cell));
  no_others = record {
    none_sent = λ r j past. sound.no_others.none_sent r j (omega arith);
    none_told = λ r s cell past. kept_most a.origin (told a) r s cell (sound.no_others.none_told r s cell (omega arith));
    none_told_sent = λ r s j past. kept_most a.origin (told a) r s (Out j) (sound.no_others.none_told_sent r s j (omega arith));
  };
  no_other_records = record {
    none_done = sound.no_other_records.none_done;
    none_heard = λ r s cell past.
        omega (
          arith,
          kept_most a.origin (told a) r s cell (omega (arith, sound.no_other_records.none_heard r s cell past)),
          start_past a.origin.layout r s cell past,
        );
  };
}

-- a restart is a growth by no site
pub sound_restarted : (a : Account) → IsSound a → IsSound (restarted a)
sound_restarted a sound = sound_grown a a.sites (omega arith) sound

-- all known counters fit
pub known_fits : (a : Account) → IsSound a → (r s : ℕ) → FitsRow (grant (shape_of a.origin.layout) r s) s (known a r s)
known_fits a sound r s = at (cases_eq s a.origin.site)
  where
    at : (s ≡ a.origin.site) ⊎ (s ≡ a.origin.site → ⊥) → FitsRow (grant (shape_of a.origin.layout) r s) s (known a r s)
    at (inl e) =
        subst (λ (x : ℕ). FitsRow (grant (shape_of a.origin.layout) r x) x (known a r x)) (sym e)
        (FitsRow-along (grant (shape_of a.origin.layout) r a.origin.site) a.origin.site (own a r) (known a r a.origin.site) (λ cell. known_own a r cell) (sound.balanced r).fits)
    at (inr ne) =
        FitsRow-along (grant (shape_of a.origin.layout) r s) s (told a r s) (known a r s) (λ cell. known_other a r s cell ne) (sound.told_fits r s)

-- one site: what it has, holds and gave is what it was granted and sent
pub site_sum_own : (a : Account) (r : ℕ) → IsSound a → rights_of (view_of a) r + (inside a r + total_others (a.sites) a.origin.site (λ j. own a r (Out j))) ≡ grant (shape_of a.origin.layout) r a.origin.site + total_others (a.sites) a.origin.site (λ j. known a r j (Out a.origin.site))
site_sum_own a r sound =
    let n = a.sites in
    let i = a.origin.site in
    omega (
      arith,
      (sound.balanced r).affordable,
      (sound.balanced r).seats,
      gained_own a r sound.site_there,
      spent_own a r,
      total_others_same n i (λ j. known a r j (Out i)) (λ j. told a r j (Out i)) (λ j below apart. known_other a r j (Out i) apart),
    )
