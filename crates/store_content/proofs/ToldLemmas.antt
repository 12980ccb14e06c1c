-- The counters of notices as cells: they rise, and what is found at each slot.
use Rattle.std.proofs.Common.{◌≡◌, inl, inr, ℕ, ◌+◌, ◌<◌, ◌≤◌, Bool, true, false, ◌==◌, ◌&&◌, not, cond, List, [], ◌∷◌, ◌++◌, map, filter, Option, Some, None, IsTrue, refl, ap, arith}
use Rattle.std.specs.List.{AllByRecursion}
use Rattle.std.proofs.lemmas.Bool.{cases_Bool}
use Rattle.std.proofs.lemmas.Bool.Decides.{nat_tests}
use Rattle.admission_model.specs.declared.durable.DurableCell.{DurableCell}
use Rattle.admission_model.specs.Durable.{AreRising, is_before, put_cell, put_cells}
use Rattle.admission_model.specs.Restoring.{stored_at}
use Rattle.store_rows.specs.declared.content.StoredCell.{StoredCell}
use Rattle.store_rows.specs.declared.content.StoredNotice.{StoredNotice}
use Rattle.store_rows.specs.Rows.{cell_before, notice_before}
use Rattle.store_rows.specs.Sorted.{IsRising}
use Rattle.store_content.specs.Content.{durable_cell, notice_in}
use Rattle.durable_keeper.proofs.CellLists.{is_at, stored_before}

-- cells put at once are put one list after the other
pub puts_append : (cs ds es : List DurableCell) → put_cells (cs ++ ds) es ≡ put_cells cs (put_cells ds es)
puts_append [] ds es = refl
puts_append (c ∷ cs) ds es = ap (put_cell c) (puts_append cs ds es)

cells_behind : (c : StoredCell) (cs : List StoredCell) → AllByRecursion (λ d. IsTrue (cell_before c d)) cs → AllByRecursion (λ d. IsTrue (is_before (durable_cell c) d)) (map durable_cell cs)
cells_behind c [] all = tt
cells_behind c (d ∷ ds) all = (all.0, cells_behind c ds all.1)

-- the cells of a content rise
pub cells_rise : (cs : List StoredCell) → IsRising cell_before cs → AreRising (map durable_cell cs)
cells_rise [] up = tt
cells_rise (c ∷ cs) up = (cells_behind c cs up.0, cells_rise cs up.1)

-- a number as a counter that is told: none where it is 0
abbrev pub told : ℕ → Option ℕ
told n = cond (n == 0) None (Some n)

-- one of the two counters of a notice
module _ (base : ℕ) (value : StoredNotice → ℕ) where
  abbrev pub value_in : Option StoredNotice → ℕ
  value_in None = 0
  value_in (Some n) = value n

  abbrev pub cell_of : StoredNotice → DurableCell
  cell_of n = record { r = n.r; slot = base + n.site; value = value n }

  abbrev pub told_cells : List StoredNotice → List DurableCell
  told_cells ns = map cell_of (filter (λ n. not (value n == 0)) ns)

  told_push : (n : StoredNotice) (ns : List StoredNotice) (b : Bool) → (value n == 0) ≡ b → told_cells (n ∷ ns) ≡ cond b (told_cells ns) (cell_of n ∷ told_cells ns)
  told_push n ns true e = rw e refl
  told_push n ns false e = rw e refl

  behind : (n m : StoredNotice) → notice_before n m ≡ true → is_before (cell_of n) (cell_of m) ≡ true
  behind n m p = grind (arith, nat_tests)

  told_behind : (n : StoredNotice) (ns : List StoredNotice) → AllByRecursion (λ m. IsTrue (notice_before n m)) ns → AllByRecursion (λ d. IsTrue (is_before (cell_of n) d)) (told_cells ns)
  told_behind n [] all = tt
  told_behind n (m ∷ ms) all = elim (cases_Bool (value m == 0)) [
    | inl e ↦ rw (told_push m ms true e) (told_behind n ms all.1)
    | inr e ↦ rw (told_push m ms false e) (behind n m all.0, told_behind n ms all.1)
  ]

  pub told_rise : (ns : List StoredNotice) → IsRising notice_before ns → AreRising (told_cells ns)
  told_rise [] up = tt
  told_rise (n ∷ ns) up = elim (cases_Bool (value n == 0)) [
    | inl e ↦ rw (told_push n ns true e) (told_rise ns up.1)
    | inr e ↦ rw (told_push n ns false e) (told_behind n ns up.0, told_rise ns up.1)
  ]

  abbrev is_of : ℕ → ℕ → StoredNotice → Bool
  is_of r j n = (r == n.r) && (j == n.site)

  cell_there : (r j : ℕ) (n : StoredNotice) → is_of r j n ≡ true → is_at r (base + j) (cell_of n) ≡ true
  cell_there r j n p = grind (arith, nat_tests)

  cell_elsewhere : (r j : ℕ) (n : StoredNotice) → is_of r j n ≡ false → is_at r (base + j) (cell_of n) ≡ false
  cell_elsewhere r j n p = grind (arith, nat_tests)

  hidden : (r j : ℕ) (n : StoredNotice) (ns : List StoredNotice) → is_of r j n ≡ true → AllByRecursion (λ m. IsTrue (notice_before n m)) ns → stored_at (told_cells ns) r (base + j) ≡ None
  hidden r j n ns p all =
      let e : r ≡ n.r = grind (arith, nat_tests) in
      let f : j ≡ n.site = grind (arith, nat_tests) in
      rw (e, f) (stored_before (cell_of n) (told_cells ns) (told_behind n ns all))

  -- what is told of a site at a record
  pub stored_told : (ns : List StoredNotice) (r j : ℕ) → IsRising notice_before ns → stored_at (told_cells ns) r (base + j) ≡ told (value_in (notice_in ns r j))
  stored_told [] r j up = refl
  stored_told (n ∷ ns) r j up = elim (cases_Bool (is_of r j n)) [
    | inl here ↦ elim (cases_Bool (value n == 0)) [
      | inl e ↦ rw (told_push n ns true e, here, e) (hidden r j n ns here up.0)
      | inr e ↦ rw (told_push n ns false e, here, cell_there r j n here, e) refl
    ]
    | inr apart ↦ elim (cases_Bool (value n == 0)) [
      | inl e ↦ rw (told_push n ns true e, apart) (stored_told ns r j up.1)
      | inr e ↦ rw (told_push n ns false e, apart, cell_elsewhere r j n apart) (stored_told ns r j up.1)
    ]
  ]

  none_at : (r slot : ℕ) (n : StoredNotice) (ns : List StoredNotice) → is_at r slot (cell_of n) ≡ false → stored_at (told_cells ns) r slot ≡ None → stored_at (told_cells (n ∷ ns)) r slot ≡ None
  none_at r slot n ns apart none = elim (cases_Bool (value n == 0)) [
    | inl e ↦ rw (told_push n ns true e) none
    | inr e ↦ rw (told_push n ns false e, apart) none
  ]

  -- nothing is told at other slots
  pub stored_low : (ns : List StoredNotice) (r slot : ℕ) → slot < base → stored_at (told_cells ns) r slot ≡ None
  stored_low [] r slot low = refl
  stored_low (n ∷ ns) r slot low = let apart : is_at r slot (cell_of n) ≡ false = grind (arith, nat_tests) in none_at r slot n ns apart (stored_low ns r slot low)

  pub stored_high : (ns : List StoredNotice) (r slot : ℕ) → AllByRecursion (λ n. n.site ≤ 15) ns → base + 15 < slot → stored_at (told_cells ns) r slot ≡ None
  stored_high [] r slot all high = refl
  stored_high (n ∷ ns) r slot all high =
      let few : n.site ≤ 15 = all.0 in
      let apart : is_at r slot (cell_of n) ≡ false = grind (arith, nat_tests) in
      none_at r slot n ns apart (stored_high ns r slot all.1 high)
