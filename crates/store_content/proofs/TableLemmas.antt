-- The counters that a table tells, whether each is at its place or not.
use Rattle.std.proofs.Common.{◌≡◌, inl, inr, ℕ, ◌<◌, ◌≤◌, true, nat_lt, List, [], ◌∷◌, map, filter, Option, Some, None, refl, sym, ap, ap₂, subst, ◌∙◌, arith}
use Rattle.std.specs.List.{AllByRecursion}
use Rattle.std.proofs.lemmas.Bool.{cases_Bool}
use Rattle.std.proofs.lemmas.Bool.Decides.{nat_tests}
use Rattle.admission_model.specs.Durable.{AreRising}
use Rattle.admission_model.specs.Restoring.{stored_at}
use Rattle.store_rows.specs.declared.content.StoredCell.{StoredCell}
use Rattle.store_rows.specs.Rows.{cell_before}
use Rattle.store_rows.specs.Sorted.{IsRising, put, put_all}
use Rattle.store_content.specs.Content.{durable_cell, is_in_place, misplaced_cells, nameless_slot, table_cells}
use Rattle.durable_keeper.proofs.CellLists.{or_else, or_else_none, puts_rise, stored_puts}
use Rattle.store_content.proofs.PutLemmas.{low, low_below, low_rises, stored_low, stored_none}
use Rattle.store_content.proofs.ToldLemmas.{cells_rise}

pub or_else_more : (a b c : Option ℕ) → or_else (or_else a b) c ≡ or_else a (or_else b c)
or_else_more None b c = refl
or_else_more (Some v) b c = refl

placed_low : (cs : List StoredCell) → map durable_cell (filter is_in_place cs) ≡ low (map durable_cell cs)
placed_low [] = refl
placed_low (c ∷ cs) = elim (cases_Bool (nat_lt c.slot 300)) [
  | inl e ↦ rw e (ap (λ l. durable_cell c ∷ l) (placed_low cs))
  | inr e ↦ rw e (placed_low cs)
]

misplaced_slots : (cs : List StoredCell) → AllByRecursion (λ c. c.slot ≡ nameless_slot) (misplaced_cells cs)
misplaced_slots [] = tt
misplaced_slots (c ∷ cs) = elim (cases_Bool (nat_lt c.slot 300)) [
  | inl e ↦ rw e (misplaced_slots cs)
  | inr e ↦ rw e (refl, tt)
]

pub misplaced_rise : (cs : List StoredCell) → AreRising (misplaced_cells cs)
misplaced_rise [] = tt
misplaced_rise (c ∷ cs) = elim (cases_Bool (nat_lt c.slot 300)) [
  | inl e ↦ rw e (misplaced_rise cs)
  | inr e ↦ rw e (tt, tt)
]

-- counters put at their places leave the first that is not at its place
misplaced_put : (x : StoredCell) (ys : List StoredCell) → nat_lt x.slot 300 ≡ true → misplaced_cells (put cell_before x ys) ≡ misplaced_cells ys
misplaced_put x [] h = rw h refl
misplaced_put x (y ∷ ys) h = elim (cases_Bool (cell_before x y)) [
  | inl e ↦ rw (e, h) refl
  | inr e ↦ elim (cases_Bool (cell_before y x)) [
    | inl f ↦ rw (e, f) (elim (cases_Bool (nat_lt y.slot 300)) [ inl g ↦ rw g (misplaced_put x ys h) | inr g ↦ rw g refl ])
    | inr f ↦ let g : nat_lt y.slot 300 ≡ true = grind (arith, nat_tests) in rw (e, f, h, g) refl
  ]
]

pub misplaced_puts : (xs ys : List StoredCell) → AllByRecursion (λ c. c.slot < 300) xs → misplaced_cells (put_all cell_before xs ys) ≡ misplaced_cells ys
misplaced_puts [] ys all = refl
misplaced_puts (x ∷ xs) ys all =
    let small : x.slot < 300 = all.0 in
    let h : nat_lt x.slot 300 ≡ true = grind (arith, nat_tests) in
    misplaced_puts xs (put cell_before x ys) all.1 ∙ misplaced_put x ys h

pub placed_rise : (cs : List StoredCell) → IsRising cell_before cs → AreRising (map durable_cell (filter is_in_place cs))
placed_rise cs up = subst AreRising (sym (placed_low cs)) (low_rises (map durable_cell cs) (cells_rise cs up))

pub table_rises : (cs : List StoredCell) → IsRising cell_before cs → AreRising (table_cells cs)
table_rises cs up = puts_rise (misplaced_cells cs) (map durable_cell (filter is_in_place cs)) (placed_rise cs up)

-- at a slot below 300 a table tells its counter
pub stored_placed : (cs : List StoredCell) (r slot : ℕ) → slot < 300 → stored_at (table_cells cs) r slot ≡ stored_at (map durable_cell cs) r slot
stored_placed cs r slot small =
    let test : nat_lt slot 300 ≡ true = grind (arith, nat_tests) in
    stored_puts (misplaced_cells cs) (map durable_cell (filter is_in_place cs)) r slot
    ∙ ap₂ or_else (stored_none (λ s. s ≡ nameless_slot) (misplaced_cells cs) r slot (misplaced_slots cs) (λ e. absurd (omega (arith, e))))
    (ap (λ l. stored_at l r slot) (placed_low cs) ∙ stored_low (map durable_cell cs) r slot test)

-- at another slot only one that is not at its place
pub stored_misplaced : (cs : List StoredCell) (r slot : ℕ) → 300 ≤ slot → stored_at (table_cells cs) r slot ≡ stored_at (misplaced_cells cs) r slot
stored_misplaced cs r slot high =
    stored_puts (misplaced_cells cs) (map durable_cell (filter is_in_place cs)) r slot
    ∙ ap (or_else (stored_at (misplaced_cells cs) r slot))
    (ap (λ l. stored_at l r slot) (placed_low cs) ∙ stored_none (λ s. s < 300) (low (map durable_cell cs)) r slot (low_below (map durable_cell cs)) (λ small. absurd (omega (arith, small))))
    ∙ or_else_none (stored_at (misplaced_cells cs) r slot)
