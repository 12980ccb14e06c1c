-- A book under a layout of more sites.
use Rattle.std.proofs.Common.{◌≡◌, ℕ, ◌≤◌, true, List, [], ◌∷◌, length, sym, ap, ◌∙◌, subst, arith}
use Rattle.std.specs.List.{AllByRecursion}
use Rattle.merge_core.specs.declared.cell.Cell.{Cell}
use Rattle.merge_core.specs.declared.delta.Row.{Row}
use Rattle.merge_core.specs.Layout.{Shape, RecordShape, IsEarlierShape}
use Rattle.merge_core.specs.Rows.{start_counter, grant}
use Rattle.merge_core.specs.Tests.{is_placed, is_valid}
use Rattle.merge_core.specs.Naming.{shown_by}
use Rattle.merge_core.specs.Book.{BookState, IsBook, book_shape, counter_of}
use Rattle.merge_core.specs.Check.{IsChecked}
use Rattle.merge_core.specs.Changes.{JoinsRows, IsWidened}
use Rattle.merge_core.specs.Order.{NamesSame, IsJoin}
use Rattle.merge_core.proofs.MergeLemmas.{start_below}
use Rattle.merge_core.proofs.TestLemmas.{IsPlaced, IsValid, placed_parts, placed_from, valid_parts, valid_from, all_pass, none_failing}
use Rattle.merge_core.proofs.UnitLemmas.{units-from_same}

-- a start reads the records of a shape alone ..
start_along : (old new : Shape) (r s : ℕ) (cell : Cell) → new.records ≡ old.records → start_counter new r s cell ≡ start_counter old r s cell
start_along old new r s cell same = ap (λ (records : List RecordShape). start_counter (record { sites = old.sites; records = records }) r s cell) same

grant_along : (old new : Shape) (r s : ℕ) → new.records ≡ old.records → grant new r s ≡ grant old r s
grant_along old new r s same = ap (λ (records : List RecordShape). grant (record { sites = old.sites; records = records }) r s) same

-- .. and so does what rows show
pub shown_along : (old new : Shape) (rows : List Row) (r s : ℕ) (cell : Cell) → new.records ≡ old.records → shown_by new rows r s cell ≡ shown_by old rows r s cell
shown_along old new rows r s cell same = ap (λ (records : List RecordShape). shown_by (record { sites = old.sites; records = records }) rows r s cell) same

-- rows that a book takes are taken by a wider one
checked_rows : (old new : Shape) (rows : List Row) → IsEarlierShape old new → AllByRecursion (λ p. is_placed old p ≡ true) rows → AllByRecursion (λ p. is_placed new p ≡ true) rows
checked_rows old new [] grows all = tt
checked_rows old new (p ∷ ps) grows all = (placed_from new p here, checked_rows old new ps grows all.1)
  where
    here : IsPlaced new p
    here =
        let is = placed_parts old p all.0 in
        record {
          record_there = omega (arith, is.record_there, ap {A = List RecordShape} length grows.same_records);
          own_there = is.own_there;
          few_sites = omega (arith, is.few_sites, grows.fewer_sites);
        }

valid_rows : (old new : Shape) (rows : List Row) → IsEarlierShape old new → AllByRecursion (λ p. is_valid old p ≡ true) rows → AllByRecursion (λ p. is_valid new p ≡ true) rows
valid_rows old new [] grows all = tt
valid_rows old new (p ∷ ps) grows all = (valid_from new p here, valid_rows old new ps grows all.1)
  where
    here : IsValid new p
    here =
        let is = valid_parts old p all.0 in
        let same = grant_along old new p.r p.s grows.same_records in
        record {
          kept_grant = omega (arith, same, is.kept_grant);
          left_after_taken = omega (arith, same, is.left_after_taken);
          few_taken = is.few_taken;
          few_moved = is.few_moved;
          finished_after_announced = is.finished_after_announced;
          few_announced = is.few_announced;
        }

pub checked_wider : (old new : Shape) (rows : List Row) → IsEarlierShape old new → IsChecked old rows → IsChecked new rows
checked_wider old new rows grows is = record {
  placed = none_failing (is_placed new) rows (checked_rows old new rows grows (all_pass (is_placed old) rows is.placed));
  valid = none_failing (is_valid new) rows (valid_rows old new rows grows (all_pass (is_valid old) rows is.valid));
}

-- the wider start joined with all that a book tells has the book's counters
pub IsWidened-told : (shape : Shape) (b start new : BookState) (rows : List Row) → IsBook b → IsEarlierShape (book_shape b) shape → book_shape start ≡ shape → ((r s : ℕ) (cell : Cell) → counter_of start r s cell ≡ start_counter shape r s cell) → ((r s : ℕ) (cell : Cell) → shown_by (book_shape b) rows r s cell ≡ counter_of b r s cell) → JoinsRows start new rows → IsWidened shape b new
IsWidened-told shape b start new rows book grows at_start starts told joins = record {
  shape = joins.shape ∙ at_start;
  counters = λ r s cell.
      let shown : shown_by (book_shape start) rows r s cell ≡ counter_of b r s cell =
      ap (λ (at : Shape). shown_by at rows r s cell) at_start ∙ (shown_along (book_shape b) shape rows r s cell grows.same_records ∙ told r s cell) in
      let below : start_counter shape r s cell ≤ counter_of b r s cell =
      subst (λ (n : ℕ). n ≤ counter_of b r s cell) (sym (start_along (book_shape b) shape r s cell grows.same_records)) (start_below b r s cell book) in
      omega (arith, joins.counters r s cell, starts r s cell);
}

-- ---- the laws

pub widened_names : (shape : Shape) (a wide : BookState) → IsWidened shape a wide → NamesSame wide a
widened_names shape a wide is r s cell k = units-from_same (counter_of wide r s cell) (counter_of a r s cell) (is.counters r s cell) k

pub widened_rows : (shape : Shape) (a j wide wide_j : BookState) (rows : List Row) → IsEarlierShape (book_shape a) shape → IsWidened shape a wide → IsWidened shape j wide_j → JoinsRows a j rows → JoinsRows wide wide_j rows
widened_rows shape a j wide wide_j rows grows at_a at_j joins = record {
  shape = at_j.shape ∙ sym at_a.shape;
  counters = λ r s cell.
      let shown : shown_by (book_shape wide) rows r s cell ≡ shown_by (book_shape a) rows r s cell =
      ap (λ (at : Shape). shown_by at rows r s cell) at_a.shape ∙ shown_along (book_shape a) shape rows r s cell grows.same_records in
      omega (arith, at_j.counters r s cell, joins.counters r s cell, at_a.counters r s cell);
}

pub widened_joins : (shape : Shape) (a b j wide_a wide_b wide_j : BookState) → IsWidened shape a wide_a → IsWidened shape b wide_b → IsWidened shape j wide_j → IsJoin a b j → IsJoin wide_a wide_b wide_j
widened_joins shape a b j wide_a wide_b wide_j at_a at_b at_j join = record {
  left = λ r s cell k names. (widened_names shape j wide_j at_j r s cell k).1 (join.left r s cell k ((widened_names shape a wide_a at_a r s cell k).0 names));
  right = λ r s cell k names. (widened_names shape j wide_j at_j r s cell k).1 (join.right r s cell k ((widened_names shape b wide_b at_b r s cell k).0 names));
  least = λ c above_a above_b r s cell k names.
      join.least c (λ r2 s2 cell2 k2 n. above_a r2 s2 cell2 k2 ((widened_names shape a wide_a at_a r2 s2 cell2 k2).1 n))
      (λ r2 s2 cell2 k2 n. above_b r2 s2 cell2 k2 ((widened_names shape b wide_b at_b r2 s2 cell2 k2).1 n)) r s cell k
      ((widened_names shape j wide_j at_j r s cell k).0 names);
}
