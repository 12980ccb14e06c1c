-- The durable part of a run from what the site tells: a book that joins it has the counters again.
use Rattle.std.proofs.Common.{◌≡◌, ℕ, ◌<◌, ◌≤◌, ◌^◌, ◌⊎◌, inl, inr, Bool, true, false, not, cond, eqb, ltb, List, [], length, get_or, Option, Some, None, Result, Ok, Err, is_err, refl, sym, ap, subst, ◌∙◌, arith}
use Rattle.std.specs.List.{list_all}
use Rattle.std.proofs.lemmas.Bool.{cases_eq, cases_lt, cases_Bool, cond_both, ltb-true, not-false}
use Rattle.std.proofs.lemmas.List.{get_or-map}
use Rattle.std.proofs.lemmas.List.Folds.{list_all_at}
use Rattle.merge_core.specs.declared.cell.Cell.{Cell}
use Rattle.merge_core.specs.declared.cell.Cell.TheVariants.{Out, Taken, Ann, Fin}
use Rattle.merge_core.specs.declared.layout.RecordSpec.{RecordSpec}
use Rattle.merge_core.specs.declared.layout.LayoutError.{LayoutError}
use Rattle.merge_core.specs.declared.layout.LayoutError.TheVariants.{TooFewSites, TooManySites, NoRecords, TooManyRecords, BadName, SameName, BadSeats, BadHome, BadProblem}
use Rattle.merge_core.specs.Layout.{LayoutState, IsLayout, Shape, RecordShape, record_shape, shape_of, at_sites, layout_fault, names_differ, has_good_name, has_good_seats, has_good_home, has_good_problem}
use Rattle.merge_core.specs.Rows.{no_record, grant, start_counter}
use Rattle.merge_core.specs.Delta.{DeltaState, IsDelta}
use Rattle.merge_core.specs.declared.delta.Row.{Row}
use Rattle.merge_core.specs.declared.check.CheckError.{CheckError}
use Rattle.merge_core.specs.declared.check.CheckError.TheVariants.{OtherLayout, BadRow}
use Rattle.merge_core.specs.Check.{IsChecked, IsCheckOf}
use Rattle.merge_core.specs.Moved.{all_moved}
use Rattle.merge_core.specs.Naming.{shown_by}
use Rattle.merge_core.specs.Changes.{JoinsRows}
use Rattle.merge_core.specs.Book.{BookState, book_shape, counter_of}
use Rattle.admission_model.specs.Knowledge.{known}
use Rattle.admission_model.specs.Sound.{FitsRow}
use Rattle.admission_model.specs.Restoring.{counters_from}
use Rattle.admission_model.specs.Durable.{at_slot, places, kept_cells}
use Rattle.admission_model.proofs.OriginLemmas.{rows_fit}
use Rattle.admission_model.proofs.RowLemmas.{start_below, start_past, start_diagonal}
use Rattle.admission_core.specs.Kept.{DurableState}
use Rattle.admission_core.proofs.RestoringCores.{beyond_from, begun_known}
use Rattle.admission_core.proofs.RestoringRows.{StartBeyond, shown_counter, checked_from, IsDelta-told}
use Rattle.desk_log.specs.Log.{begun}
use Rattle.desk_log.proofs.KeptLemmas.{durable_begun}
use Rattle.transcript_text.specs.Texts.{book_told, MayBegin}

-- ---- a layout at another number of sites

peel : (b : Bool) (e : LayoutError) (rest : Option LayoutError) → cond b (Some e) rest ≡ None → (b ≡ false) × (rest ≡ None)
peel true e rest none = absurd cc
peel false e rest none = (refl, none)

-- the last faults of a layout
abbrev problem_fault : List RecordSpec → Option LayoutError
problem_fault rs = cond (not (list_all has_good_problem rs)) (Some BadProblem) None

abbrev home_fault : ℕ → List RecordSpec → Option LayoutError
home_fault n rs = cond (not (list_all (has_good_home n) rs)) (Some BadHome) (problem_fault rs)

abbrev seat_fault : ℕ → List RecordSpec → Option LayoutError
seat_fault n rs = cond (not (list_all has_good_seats rs)) (Some BadSeats) (home_fault n rs)

abbrev same_fault : ℕ → List RecordSpec → Option LayoutError
same_fault n rs = cond (not (names_differ rs)) (Some SameName) (seat_fault n rs)

abbrev name_fault : ℕ → List RecordSpec → Option LayoutError
name_fault n rs = cond (not (list_all has_good_name rs)) (Some BadName) (same_fault n rs)

abbrev many_fault : ℕ → List RecordSpec → Option LayoutError
many_fault n rs = cond (ltb 256 (length rs)) (Some TooManyRecords) (name_fault n rs)

abbrev few_fault : ℕ → List RecordSpec → Option LayoutError
few_fault n rs = cond (eqb (length rs) 0) (Some NoRecords) (many_fault n rs)

abbrev site_fault : ℕ → List RecordSpec → Option LayoutError
site_fault n rs = cond (ltb 16 n) (Some TooManySites) (few_fault n rs)

-- homes without a fault are among the sites
homes_there : (n : ℕ) (rs : List RecordSpec) → layout_fault n rs ≡ None → list_all (has_good_home n) rs ≡ true
homes_there n rs none =
    let p0 = peel (eqb n 0) TooFewSites (site_fault n rs) none in
    let p1 = peel (ltb 16 n) TooManySites (few_fault n rs) p0.1 in
    let p2 = peel (eqb (length rs) 0) NoRecords (many_fault n rs) p1.1 in
    let p3 = peel (ltb 256 (length rs)) TooManyRecords (name_fault n rs) p2.1 in
    let p4 = peel (not (list_all has_good_name rs)) BadName (same_fault n rs) p3.1 in
    let p5 = peel (not (names_differ rs)) SameName (seat_fault n rs) p4.1 in
    let p6 = peel (not (list_all has_good_seats rs)) BadSeats (home_fault n rs) p5.1 in
    let p7 = peel (not (list_all (has_good_home n) rs)) BadHome (problem_fault rs) p6.1 in
    not-false (list_all (has_good_home n) rs) p7.0

each_home : (n : ℕ) (records : List RecordSpec) → list_all (has_good_home n) records ≡ true → (k : ℕ) (d : RecordSpec) → k < length records → (get_or records k d).home < n
each_home n records all k d below = at (cases_Bool (has_good_home n (get_or records k d)))
  where
    at : (has_good_home n (get_or records k d) ≡ true) ⊎ (has_good_home n (get_or records k d) ≡ false) → (get_or records k d).home < n
    at (inl good) = ltb-true (get_or records k d).home n good
    at (inr bad) = let clash : false ≡ true = sym (list_all_at (has_good_home n) records k d below bad) ∙ all in absurd cc

pub layout_at : (layout : LayoutState) (n : ℕ) → IsLayout layout → 1 ≤ n → n ≤ layout.sites → layout_fault n layout.records ≡ None → IsLayout (at_sites n layout)
layout_at layout n is some few none = record {
  some_sites = some;
  few_sites = omega (arith, is.few_sites);
  some_records = is.some_records;
  few_records = is.few_records;
  names = is.names;
  apart = is.apart;
  seats = is.seats;
  homes = λ k d below. each_home n layout.records (homes_there n layout.records none) k d below;
  problems = is.problems;
}

-- a grant is a number of 64 bits
grant_fits : (layout : LayoutState) (r s : ℕ) → IsLayout layout → grant (shape_of layout) r s ≤ 65535
grant_fits layout r s is = at (cases_lt r (length layout.records))
  where
    d : RecordSpec
    d = record { name = []; seats = 0; home = 0; problem = 0 }

    at : (r < length layout.records) ⊎ (length layout.records ≤ r) → grant (shape_of layout) r s ≤ 65535
    at (inl below) =
        let seats : (get_or (shape_of layout).records r no_record).seats ≡ (get_or layout.records r d).seats =
        ap (λ (x : RecordShape). x.seats) (get_or-map record_shape layout.records r d no_record below) in
        let few = is.seats r d below in
        cond_both (eqb s (get_or (shape_of layout).records r no_record).home) (get_or (shape_of layout).records r no_record).seats 0 (λ x. x ≤ 65535) (λ e. omega (arith, few.1)) (λ e. omega arith)
    at (inr past) = omega (arith, start_past layout r s (Out s) past, start_diagonal (shape_of layout) r s)

cell_fits : (granted s : ℕ) (f : Cell → ℕ) (cell : Cell) → granted ≤ 65535 → FitsRow granted s f → f cell < 2 ^ 64
cell_fits granted s f (Out j) few fits = at (cases_eq j s)
  where
    at : (j ≡ s) ⊎ (j ≡ s → ⊥) → f (Out j) < 2 ^ 64
    at (inl e) = subst (λ (x : ℕ). f (Out x) < 2 ^ 64) (sym e) (omega (arith, fits.returned_after_taken, fits.few_taken))
    at (inr apart) = omega (arith, fits.few_moved j apart)
cell_fits granted s f Taken few fits = omega (arith, fits.few_taken)
cell_fits granted s f Ann few fits = omega (arith, fits.few_announced)
cell_fits granted s f Fin few fits = omega (arith, fits.finished_after_announced, fits.few_announced)

-- a checked delta is not refused
pub not_refused : (shape : Shape) (rows : List Row) (answer : Result (Unit {0}) CheckError) → IsCheckOf shape rows answer → IsChecked shape rows → is_err answer ≡ false
not_refused shape rows (Ok u) answered checked = refl
not_refused shape rows (Err (OtherLayout k)) answered checked = let clash : ◌≡◌ {A = Option ℕ} None (Some k) = sym checked.placed ∙ answered in absurd cc
not_refused shape rows (Err (BadRow k)) answered checked = let clash : ◌≡◌ {A = Option ℕ} None (Some k) = sym checked.valid ∙ answered.1 in absurd cc

-- ---- what the site tells

module _ (layout : LayoutState) (i sites : ℕ) (first : DurableState) (there : IsLayout (at_sites sites layout)) (may : MayBegin layout i sites first) where
  abbrev under : LayoutState
  under = at_sites sites layout

  abbrev counters : ℕ → ℕ → Cell → ℕ
  counters = counters_from under i first.cells

  abbrev told : DeltaState
  told = book_told layout i sites first

  known_is : known (begun under i first) ≡ counters
  known_is = λ k r s cell. begun_known under i first.cells first.sessions r s cell k

  rows_are : told.rows ≡ all_moved (shape_of under) counters
  rows_are = ap (all_moved (shape_of under)) known_is

  beyond : StartBeyond under counters
  beyond = beyond_from under i first.cells may.site_there may.cells.records

  fits : (r s : ℕ) → FitsRow (grant (shape_of under) r s) s (counters r s)
  fits = rows_fit under i first.cells first.sessions may.site_there may.cells

  -- it is a delta, and every book of the shape takes it
  pub told_delta : IsDelta told
  told_delta =
      subst (λ (rows : List Row). IsDelta (record { from = i; rows = rows })) (sym rows_are)
      (IsDelta-told under i counters there may.site_there (λ r s cell. cell_fits (grant (shape_of under) r s) s (counters r s) cell (grant_fits under r s there) (fits r s)))

  pub told_checked : IsChecked (shape_of under) told.rows
  told_checked = subst (λ (rows : List Row). IsChecked (shape_of under) rows) (sym rows_are) (checked_from under counters beyond fits)

  -- what the site tells has the cells that the run begins with
  pub cells_told : kept_cells (at_slot sites i (start_counter (shape_of under))) (at_slot sites i (shown_by (shape_of under) told.rows)) (places under) ≡ first.cells
  cells_told =
      ap (λ (f : ℕ → ℕ → Cell → ℕ). kept_cells (at_slot sites i (start_counter (shape_of under))) (at_slot sites i f) (places under)) same
      ∙ ap (λ (d : DurableState). d.cells) (durable_begun under i first may.site_there there.few_sites may.cells may.sessions)
    where
      shown : (r s : ℕ) (cell : Cell) → shown_by (shape_of under) told.rows r s cell ≡ counters r s cell
      shown r s cell =
          ap (λ (rows : List Row). shown_by (shape_of under) rows r s cell) rows_are
          ∙ shown_counter under counters beyond r s cell

      same : shown_by (shape_of under) told.rows ≡ known (begun under i first)
      same = (λ k r s cell. shown r s cell k) ∙ sym known_is

  -- the book of the start that joins it keeps the cells that the run begins with
  pub cells_again : (old new : BookState) → book_shape old ≡ shape_of under
      → ((r s : ℕ) (cell : Cell) → counter_of old r s cell ≡ start_counter (shape_of under) r s cell)
      → JoinsRows old new told.rows
      → kept_cells (at_slot sites i (start_counter (shape_of under))) (at_slot sites i (counter_of new)) (places under) ≡ first.cells
  cells_again old new shape start joins =
      ap (λ (f : ℕ → ℕ → Cell → ℕ). kept_cells (at_slot sites i (start_counter (shape_of under))) (at_slot sites i f) (places under)) same
      ∙ ap (λ (d : DurableState). d.cells) (durable_begun under i first may.site_there there.few_sites may.cells may.sessions)
    where
      shown : (r s : ℕ) (cell : Cell) → shown_by (book_shape old) told.rows r s cell ≡ counters r s cell
      shown r s cell =
          ap (λ x. shown_by x told.rows r s cell) shape
          ∙ (ap (λ (rows : List Row). shown_by (shape_of under) rows r s cell) rows_are
          ∙ shown_counter under counters beyond r s cell)

      at : (r s : ℕ) (cell : Cell) → counter_of new r s cell ≡ counters r s cell
      at r s cell =
          omega (arith, joins.counters r s cell, start r s cell, shown r s cell, start_below (shape_of under) r s (counters r s) (fits r s) cell)

      same : counter_of new ≡ known (begun under i first)
      same = (λ k r s cell. at r s cell k) ∙ sym known_is
