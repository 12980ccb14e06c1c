-- Rows that pass the tests of a merge.
use Rattle.std.proofs.Common.{◌≡◌, ◌≢◌, ℕ, zero, suc, ◌-◌, ◌<◌, ◌≤◌, ◌⊎◌, inl, inr, Bool, true, false, not, ◌&&◌, cond, eqb, ltb, leb, List, [], ◌∷◌, length, Some, None, is_some, refl, ap, ◌∙◌, arith}
use Rattle.std.specs.List.{AllByRecursion}
use Rattle.std.proofs.lemmas.Bool.{cases_eq, eq-eqb, lt-ltb, le-ltb, le-leb, and_from, and_right, cond-false}
use Rattle.merge_core.specs.declared.cell.Cell.{Cell}
use Rattle.merge_core.specs.declared.cell.Cell.TheVariants.{Out, Taken, Ann, Fin}
use Rattle.merge_core.specs.declared.delta.Row.{Row}
use Rattle.merge_core.specs.Delta.{DeltaState}
use Rattle.merge_core.specs.Layout.{Shape, shape_of}
use Rattle.merge_core.specs.Counts.{counter_limit}
use Rattle.merge_core.specs.Rows.{grant, counter_in, counters_of}
use Rattle.merge_core.specs.Naming.{shown_by}
use Rattle.merge_core.specs.Sums.{one_if, number_of_cells, least_below, first_of_two}
use Rattle.merge_core.specs.Tests.{is_placed, is_valid, overfull}
use Rattle.admission_model.specs.declared.ask.Call.TheVariants.{Merge}
use Rattle.admission_model.specs.View.{View}
use Rattle.admission_model.specs.Merging.{tells_too_much}
use Rattle.admission_model.specs.Replies.{merge_lines}
use Rattle.admission_model.specs.Serving.{reason}
use Rattle.admission_model.specs.Sound.{FitsRow}
use Rattle.merge_core.proofs.SumLemmas.{total_zero}
use Rattle.admission_model.proofs.RowLemmas.{AllPass, first_failing-none}
use Rattle.admission_model.proofs.ServingLemmas.{first_reason-none}

-- a row that is placed and fits
pub record IsTellable (shape : Shape) (p : Row) : Type 0 where
  pub record_there : p.r < length shape.records
  pub site_there : p.s < length p.out
  pub few_sites : length p.out ≤ shape.sites
  pub fits : FitsRow (grant shape p.r p.s) p.s (counter_in (counters_of p))

pub placed_from : (shape : Shape) (p : Row) → IsTellable shape p → is_placed shape p ≡ true
placed_from shape p is =
    and_from (ltb p.r (length shape.records)) (ltb p.s (length p.out) && leb (length p.out) shape.sites) (lt-ltb p.r (length shape.records) is.record_there)
    (and_from (ltb p.s (length p.out)) (leb (length p.out) shape.sites) (lt-ltb p.s (length p.out) is.site_there) (le-leb (length p.out) shape.sites is.few_sites))

overfull-zero : (p : Row) → ((j : ℕ) → j ≢ p.s → counter_in (counters_of p) (Out j) ≤ counter_limit) → overfull p ≡ 0
overfull-zero p few =
    total_zero (length p.out) (λ j. one_if (not (eqb j p.s) && ltb counter_limit (counter_in (counters_of p) (Out j)))) (λ j below. ap one_if (at j (cases_eq j p.s)))
  where
    at : (j : ℕ) → (j ≡ p.s) ⊎ (j ≡ p.s → ⊥) → (not (eqb j p.s) && ltb counter_limit (counter_in (counters_of p) (Out j))) ≡ false
    at j (inl e) = ap (λ b. not b && ltb counter_limit (counter_in (counters_of p) (Out j))) (eq-eqb j p.s e)
    at j (inr ne) = and_right (not (eqb j p.s)) (ltb counter_limit (counter_in (counters_of p) (Out j))) (le-ltb counter_limit (counter_in (counters_of p) (Out j)) (few j ne))

pub valid_from : (shape : Shape) (p : Row) → FitsRow (grant shape p.r p.s) p.s (counter_in (counters_of p)) → is_valid shape p ≡ true
valid_from shape p fits =
    let granted = grant shape p.r p.s in
    let own_out = counter_in (counters_of p) (Out p.s) in
    let few = eq-eqb (overfull p) 0 (overfull-zero p fits.few_moved) in
    let back : own_out - granted ≤ p.taken = omega (arith, fits.returned_after_taken) in
    and_from (leb granted own_out) (leb (own_out - granted) p.taken && (leb p.taken counter_limit && (eqb (overfull p) 0 && (leb p.fin p.ann && leb p.ann counter_limit)))) (le-leb granted own_out fits.grant_kept)
    (and_from (leb (own_out - granted) p.taken) (leb p.taken counter_limit && (eqb (overfull p) 0 && (leb p.fin p.ann && leb p.ann counter_limit))) (le-leb (own_out - granted) p.taken back)
    (and_from (leb p.taken counter_limit) (eqb (overfull p) 0 && (leb p.fin p.ann && leb p.ann counter_limit)) (le-leb p.taken counter_limit fits.few_taken)
    (and_from (eqb (overfull p) 0) (leb p.fin p.ann && leb p.ann counter_limit) few
    (and_from (leb p.fin p.ann) (leb p.ann counter_limit) (le-leb p.fin p.ann fits.finished_after_announced) (le-leb p.ann counter_limit fits.few_announced)))))

all_placed : (shape : Shape) (rows : List Row) → AllByRecursion (IsTellable shape) rows → AllPass (is_placed shape) rows
all_placed shape [] all = tt
all_placed shape (p ∷ ps) all = (placed_from shape p all.0, all_placed shape ps all.1)

all_valid : (shape : Shape) (rows : List Row) → AllByRecursion (IsTellable shape) rows → AllPass (is_valid shape) rows
all_valid shape [] all = tt
all_valid shape (p ∷ ps) all = (valid_from shape p all.0.fits, all_valid shape ps all.1)

least_below-gone : (n : ℕ) (test : ℕ → Bool) → ((j : ℕ) → j < n → test j ≡ false) → least_below n test ≡ None
least_below-gone zero test none = refl
least_below-gone (suc n) test none =
    ap (λ o. first_of_two o (cond (test n) (Some n) None)) (least_below-gone n test (λ j below. none j (omega arith)))
    ∙ cond-false (test n) (Some n) None (none n (omega arith))

number_of_cells-none : (n : ℕ) (test : Cell → Bool) → ((cell : Cell) → test cell ≡ false) → number_of_cells n test ≡ 0
number_of_cells-none n test none =
    omega (
      arith,
      total_zero n (λ j. one_if (test (Out j))) (λ j below. ap one_if (none (Out j))),
      ap one_if (none Taken),
      ap one_if (none Ann),
      ap one_if (none Fin),
    )

-- a delta of tellable rows, none ahead of the site's own, is not refused
pub merge_accepted : (v : View) (delta : DeltaState) → AllByRecursion (IsTellable (shape_of v.layout)) delta.rows → ((r : ℕ) (cell : Cell) → shown_by (shape_of v.layout) delta.rows r v.site cell ≤ v.counter r v.site cell) → reason v (Merge delta) ≡ None
merge_accepted v delta all behind =
    first_reason-none (merge_lines v delta) (
      ap is_some (first_failing-none (is_placed (shape_of v.layout)) delta.rows (all_placed (shape_of v.layout) delta.rows all)),
      (
        ap is_some (first_failing-none (is_valid (shape_of v.layout)) delta.rows (all_valid (shape_of v.layout) delta.rows all)),
        (ap is_some (least_below-gone (length v.layout.records) (tells_too_much v delta.rows) quiet), tt),
      ),
    )
  where
    quiet : (r : ℕ) → r < length v.layout.records → tells_too_much v delta.rows r ≡ false
    quiet r below =
        ap (λ n. ltb 0 n) (number_of_cells-none v.layout.sites (λ cell. ltb (v.counter r v.site cell) (shown_by (shape_of v.layout) delta.rows r v.site cell))
        (λ cell. le-ltb (v.counter r v.site cell) (shown_by (shape_of v.layout) delta.rows r v.site cell) (behind r cell)))
