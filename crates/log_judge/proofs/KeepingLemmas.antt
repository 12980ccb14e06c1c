-- Own rows with equal counters.
use Rattle.std.proofs.Common.{◌≡◌, ℕ, ◌<◌, ◌≤◌, ◌⊎◌, inl, inr, List, [], length, get_or, sym, ap, subst, ◌∙◌, arith}
use Rattle.std.specs.Prelude.{◌↔◌}
use Rattle.std.proofs.lemmas.Bool.{cases_lt}
use Rattle.std.proofs.lemmas.List.{get_or_past}
use Rattle.merge_core.specs.declared.cell.Cell.{Cell}
use Rattle.merge_core.specs.declared.delta.Row.{Row}
use Rattle.merge_core.specs.Rows.{RowCounters, counter_in, counters_of}
use Rattle.admission_model.specs.Account.{Account}
use Rattle.log_judge.specs.Excess.{AreSame, AreWithin, IsAbove, no_row, own_in}
use Rattle.log_judge.specs.Stream.{TellAll}
use Rattle.log_judge.proofs.TellsLemmas.{none_told}

-- no counter of a row that is not there is above another
none_over : (q : RowCounters) → ¬ IsAbove (counters_of no_row) q
none_over q (cell, above) = omega (arith, above, none_told cell)

-- no row behind the last one is above another
pub past_within : (rows : List Row) (others : ℕ → RowCounters) → ((r : ℕ) → r < length rows → ¬ IsAbove (counters_of (get_or rows r no_row)) (others r)) → (r : ℕ) → ¬ IsAbove (counters_of (get_or rows r no_row)) (others r)
past_within rows others each r = at (cases_lt r (length rows))
  where
    at : (r < length rows) ⊎ (length rows ≤ r) → ¬ IsAbove (counters_of (get_or rows r no_row)) (others r)
    at (inl below) = each r below
    at (inr past) = subst (λ (p : Row). ¬ IsAbove (counters_of p) (others r)) (sym (get_or_past rows r no_row past)) (none_over (others r))

-- none of a site behind the last one is
pub past_tables : (tables others : List (List Row)) → ((s : ℕ) → s < length tables → (r : ℕ) → ¬ IsAbove (counters_of (own_in tables s r)) (counters_of (own_in others s r))) → AreWithin tables others
past_tables tables others each s = at (cases_lt s (length tables))
  where
    gone : (r : ℕ) → get_or {A = Row} [] r no_row ≡ no_row
    gone r = get_or_past [] r no_row (omega arith)

    at : (s < length tables) ⊎ (length tables ≤ s) → (r : ℕ) → ¬ IsAbove (counters_of (own_in tables s r)) (counters_of (own_in others s r))
    at (inl below) = each s below
    at (inr past) = λ r.
        subst (λ (p : Row). ¬ IsAbove (counters_of p) (counters_of (own_in others s r))) (sym (ap (λ (rows : List Row). get_or rows r no_row) (get_or_past tables s [] past) ∙ gone r))
        (none_over (counters_of (own_in others s r)))

-- a counter that is not above another
not_over : (p q : RowCounters) → (¬ IsAbove p q) → (cell : Cell) → counter_in p cell ≤ counter_in q cell
not_over p q none cell = at (cases_lt (counter_in q cell) (counter_in p cell))
  where
    at : (counter_in q cell < counter_in p cell) ⊎ (counter_in p cell ≤ counter_in q cell) → counter_in p cell ≤ counter_in q cell
    at (inl above) = absurd (none (cell, above))
    at (inr fits) = fits

-- tables have the counters of those that tell all accounts exactly if they tell these too
pub same_tell : (guess tables : List (List Row)) (accounts : ℕ → Account) → TellAll tables accounts → AreSame guess tables ↔ TellAll guess accounts
same_tell guess tables accounts told = (tell, same)
  where
    tell : AreSame guess tables → TellAll guess accounts
    tell it s r cell =
        let upper = not_over (counters_of (own_in guess s r)) (counters_of (own_in tables s r)) (it.0 s r) cell in
        let lower = not_over (counters_of (own_in tables s r)) (counters_of (own_in guess s r)) (it.1 s r) cell in
        omega (arith, upper, lower, told s r cell)

    same : TellAll guess accounts → AreSame guess tables
    same by = (λ s r above. omega (arith, above.1, by s r above.0, told s r above.0), λ s r above. omega (arith, above.1, by s r above.0, told s r above.0))
