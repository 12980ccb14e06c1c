-- The table of counters after those of a change were put.
use Rattle.std.proofs.Common.{◌≡◌, inl, inr, ℕ, zero, suc, ◌<◌, Bool, true, false, nat_lt, cond, List, [], ◌∷◌, map, filter, None, IsTrue, refl, ap, subst, ◌∙◌, arith}
use Rattle.std.specs.List.{All, AllByRecursion}
use Rattle.std.proofs.lemmas.Bool.{cases_Bool}
use Rattle.std.proofs.lemmas.Bool.Decides.{nat_tests}
use Rattle.admission_model.specs.declared.durable.DurableCell.{DurableCell}
use Rattle.admission_model.specs.Durable.{AreRising, is_before, put_cell}
use Rattle.admission_model.specs.Restoring.{stored_at}
use Rattle.store_rows.specs.declared.content.StoredCell.{StoredCell}
use Rattle.store_rows.specs.Rows.{cell_before}
use Rattle.store_rows.specs.Sorted.{IsRising, put, put_all}
use Rattle.store_rows.proofs.SortedLemmas.{IsOrder, put_rises}
use Rattle.store_content.specs.Content.{durable_cell}
use Rattle.store_content.specs.Plan.{cells_of}
use Rattle.durable_keeper.proofs.CellLists.{is_at, or_else, stored_before, stored_put}
use Rattle.durable_keeper.proofs.MergeLemmas.{behind_apart, level}

-- what holds of each, by index and by recursion
pub each_of : {X : Type 0} (P : X → Type 0) (xs : List X) → All P xs → AllByRecursion P xs
each_of P [] all = tt
each_of P (x ∷ xs) all = (all 0 x (omega arith), each_of P xs (λ i d below. all (suc i) d (omega arith)))

pub each_by : {X : Type 0} (P : X → Type 0) (xs : List X) → AllByRecursion P xs → All P xs
each_by P [] all i d below = absurd (omega arith)
each_by P (x ∷ xs) all zero d below = all.0
each_by P (x ∷ xs) all (suc i) d below = each_by P xs all.1 i d (omega arith)

pub all_weaker : {X : Type 0} (P Q : X → Type 0) → ((x : X) → P x → Q x) → (xs : List X) → AllByRecursion P xs → AllByRecursion Q xs
all_weaker P Q f [] all = tt
all_weaker P Q f (x ∷ xs) all = (f x all.0, all_weaker P Q f xs all.1)

module _ {X : Type 0} (before : X → X → Bool) where
  all_put : (P : X → Type 0) (x : X) (ys : List X) → P x → AllByRecursion P ys → AllByRecursion P (put before x ys)
  all_put P x [] p all = (p, tt)
  all_put P x (y ∷ ys) p all = elim (cases_Bool (before x y)) [
    | inl e ↦ rw e (p, all)
    | inr e ↦ elim (cases_Bool (before y x)) [
      | inl f ↦ rw (e, f) (all.0, all_put P x ys p all.1)
      | inr f ↦ rw (e, f) (p, all.1)
    ]
  ]

  pub all_put_all : (P : X → Type 0) (xs ys : List X) → AllByRecursion P xs → AllByRecursion P ys → AllByRecursion P (put_all before xs ys)
  all_put_all P [] ys all more = more
  all_put_all P (x ∷ xs) ys all more = all_put_all P xs (put before x ys) all.1 (all_put P x ys all.0 more)

  pub put_all_rises : IsOrder before → (xs ys : List X) → IsRising before ys → IsRising before (put_all before xs ys)
  put_all_rises order [] ys up = up
  put_all_rises order (x ∷ xs) ys up = put_all_rises order xs (put before x ys) (put_rises before order x ys up)

-- cells put one after the other, of which the last one at a place stays
in_turn : List DurableCell → List DurableCell → List DurableCell
in_turn [] ds = ds
in_turn (c ∷ cs) ds = in_turn cs (put_cell c ds)

durable_put : (x : StoredCell) (ys : List StoredCell) → map durable_cell (put cell_before x ys) ≡ put_cell (durable_cell x) (map durable_cell ys)
durable_put x [] = refl
durable_put x (y ∷ ys) = elim (cases_Bool (cell_before x y)) [
  | inl e ↦ rw e refl
  | inr e ↦ elim (cases_Bool (cell_before y x)) [
    | inl f ↦ rw (e, f, behind_apart (durable_cell x) (durable_cell y) f) (ap (λ l. durable_cell y ∷ l) (durable_put x ys))
    | inr f ↦ rw (e, f, level (durable_cell x) (durable_cell y) f e) refl
  ]
]

durable_puts : (xs ys : List StoredCell) → map durable_cell (put_all cell_before xs ys) ≡ in_turn (map durable_cell xs) (map durable_cell ys)
unfolding in_turn
durable_puts [] ys = refl
durable_puts (x ∷ xs) ys = durable_puts xs (put cell_before x ys) ∙ ap (in_turn (map durable_cell xs)) (durable_put x ys)

stored_in_turn : (cs ds : List DurableCell) (r slot : ℕ) → AreRising cs → stored_at (in_turn cs ds) r slot ≡ or_else (stored_at cs r slot) (stored_at ds r slot)
unfolding in_turn
stored_in_turn [] ds r slot up = refl
stored_in_turn (c ∷ cs) ds r slot up =
    stored_in_turn cs (put_cell c ds) r slot up.1 ∙ ap (or_else (stored_at cs r slot)) (stored_put c ds r slot) ∙ elim (cases_Bool (is_at r slot c)) [
      | inl e ↦
          let i : c.r ≡ r = grind (arith, nat_tests) in
          let j : c.slot ≡ slot = grind (arith, nat_tests) in
          let none : stored_at cs r slot ≡ None = rw (← i, ← j) (stored_before c cs up.0) in
          rw (e, none) refl
      | inr e ↦ rw e refl
    ]

-- the counters below 300
abbrev pub low : List DurableCell → List DurableCell
low cs = filter (λ c. nat_lt c.slot 300) cs

low_push : (c : DurableCell) (cs : List DurableCell) (b : Bool) → nat_lt c.slot 300 ≡ b → low (c ∷ cs) ≡ cond b (c ∷ low cs) (low cs)
low_push c cs true e = rw e refl
low_push c cs false e = rw e refl

low_cells : (cs : List DurableCell) → map durable_cell (cells_of cs) ≡ low cs
low_cells [] = refl
low_cells (c ∷ cs) = elim (cases_Bool (nat_lt c.slot 300)) [
  | inl e ↦ rw e (ap (λ l. c ∷ l) (low_cells cs))
  | inr e ↦ rw e (low_cells cs)
]

all_low : (P : DurableCell → Type 0) (cs : List DurableCell) → AllByRecursion P cs → AllByRecursion P (low cs)
all_low P [] all = tt
all_low P (c ∷ cs) all = elim (cases_Bool (nat_lt c.slot 300)) [
  | inl e ↦ rw e (all.0, all_low P cs all.1)
  | inr e ↦ rw e (all_low P cs all.1)
]

pub low_rises : (cs : List DurableCell) → AreRising cs → AreRising (low cs)
low_rises [] up = tt
low_rises (c ∷ cs) up = elim (cases_Bool (nat_lt c.slot 300)) [
  | inl e ↦ rw e (all_low (λ d. IsTrue (is_before c d)) cs up.0, low_rises cs up.1)
  | inr e ↦ rw e (low_rises cs up.1)
]

slot_there : (r slot : ℕ) (c : DurableCell) → is_at r slot c ≡ true → c.slot ≡ slot
slot_there r slot c e = grind (arith, nat_tests)

pub stored_low : (cs : List DurableCell) (r slot : ℕ) → nat_lt slot 300 ≡ true → stored_at (low cs) r slot ≡ stored_at cs r slot
stored_low [] r slot h = refl
stored_low (c ∷ cs) r slot h = elim (cases_Bool (is_at r slot c)) [
  | inl e ↦ let f : nat_lt c.slot 300 ≡ true = rw (slot_there r slot c e) h in rw (low_push c cs true f, e) refl
  | inr e ↦ elim (cases_Bool (nat_lt c.slot 300)) [
    | inl f ↦ rw (low_push c cs true f, e) (stored_low cs r slot h)
    | inr f ↦ rw (low_push c cs false f, e) (stored_low cs r slot h)
  ]
]

-- no cell at a slot that none of them has
pub stored_none : (P : ℕ → Type 0) (cs : List DurableCell) (r slot : ℕ) → AllByRecursion (λ c. P c.slot) cs → (P slot → ⊥) → stored_at cs r slot ≡ None
stored_none P [] r slot all never = refl
stored_none P (c ∷ cs) r slot all never = elim (cases_Bool (is_at r slot c)) [
  | inl e ↦ absurd (never (subst P (slot_there r slot c e) all.0))
  | inr e ↦ rw e (stored_none P cs r slot all.1 never)
]

pub low_below : (cs : List DurableCell) → AllByRecursion (λ c. c.slot < 300) (low cs)
low_below [] = tt
low_below (c ∷ cs) = elim (cases_Bool (nat_lt c.slot 300)) [
  | inl e ↦ let small : c.slot < 300 = grind (arith, nat_tests) in rw (low_push c cs true e) (small, low_below cs)
  | inr e ↦ rw (low_push c cs false e) (low_below cs)
]

pub cells_below : (cs : List DurableCell) → AllByRecursion (λ c. c.slot < 300) (cells_of cs)
cells_below [] = tt
cells_below (c ∷ cs) = elim (cases_Bool (nat_lt c.slot 300)) [
  | inl e ↦ let small : c.slot < 300 = grind (arith, nat_tests) in rw e (small, cells_below cs)
  | inr e ↦ rw e (cells_below cs)
]

pub cells_small : (n : ℕ) (cs : List DurableCell) → AllByRecursion (λ c. c.value < n) cs → AllByRecursion (λ c. c.n < n) (cells_of cs)
cells_small n [] all = tt
cells_small n (c ∷ cs) all = elim (cases_Bool (nat_lt c.slot 300)) [
  | inl e ↦ rw e (all.0, cells_small n cs all.1)
  | inr e ↦ rw e (cells_small n cs all.1)
]

-- the table after the counters of a change were put, at a slot below 300
pub table_low : (cs : List DurableCell) (ds : List StoredCell) (r slot : ℕ) → AreRising cs → nat_lt slot 300 ≡ true
    → stored_at (map durable_cell (put_all cell_before (cells_of cs) ds)) r slot ≡ or_else (stored_at cs r slot) (stored_at (map durable_cell ds) r slot)
table_low cs ds r slot up h =
    ap (λ l. stored_at l r slot) (durable_puts (cells_of cs) ds ∙ ap (λ l. in_turn l (map durable_cell ds)) (low_cells cs))
    ∙ stored_in_turn (low cs) (map durable_cell ds) r slot (low_rises cs up) ∙ ap (λ o. or_else o (stored_at (map durable_cell ds) r slot)) (stored_low cs r slot h)
