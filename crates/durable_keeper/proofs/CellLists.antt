-- Lists of cells in rising order: look-ups in them, cells put among them, and that look-ups decide them.
use Rattle.std.proofs.Common.{◌≡◌, inl, inr, ℕ, Bool, true, false, ◌==◌, ◌&&◌, cond, List, [], ◌∷◌, ◌++◌, Option, Some, None, IsTrue, refl, sym, ap, ap₂, ◌∙◌, arith}
use Rattle.std.specs.List.{AllByRecursion}
use Rattle.std.proofs.lemmas.Bool.{cases_Bool, cond_both}
use Rattle.std.proofs.lemmas.Bool.Decides.{nat_tests}
use Rattle.admission_core.specs.DurableCell.{DurableCell}
use Rattle.admission_core.specs.Durable.{AreRising, is_before, is_same_place, put_cell, put_cells}
use Rattle.admission_core.specs.Restoring.{stored_at}

-- the first of two values that is there
abbrev pub or_else : Option ℕ → Option ℕ → Option ℕ
or_else None o = o
or_else (Some v) o = Some v

pub or_else_none : (o : Option ℕ) → or_else o None ≡ o
or_else_none None = refl
or_else_none (Some v) = refl

-- a cell is at a record's slot
abbrev pub is_at : ℕ → ℕ → DurableCell → Bool
is_at r slot c = (c.r == r) && (c.slot == slot)

-- ---- the order

pub before_through : (c d e : DurableCell) → is_before c d ≡ true → is_before d e ≡ true → is_before c e ≡ true
before_through c d e p q = grind (arith, nat_tests)

pub before_apart : (c d : DurableCell) → is_before c d ≡ true → is_at d.r d.slot c ≡ false
before_apart c d p = grind (arith, nat_tests)

pub behind_apart : (c d : DurableCell) → is_before d c ≡ true → is_at d.r d.slot c ≡ false
behind_apart c d p = grind (arith, nat_tests)

pub later_all : (c d : DurableCell) (ds : List DurableCell) → is_before c d ≡ true → AllByRecursion (λ e. IsTrue (is_before d e)) ds → AllByRecursion (λ e. IsTrue (is_before c e)) ds
later_all c d [] p all = tt
later_all c d (e ∷ es) p all = (before_through c d e p all.0, later_all c d es p all.1)

-- ---- look-ups

-- a place before all cells has none
pub stored_before : (c : DurableCell) (ds : List DurableCell) → AllByRecursion (λ d. IsTrue (is_before c d)) ds → stored_at ds c.r c.slot ≡ None
stored_before c [] all = refl
stored_before c (d ∷ ds) all = rw (behind_apart d c all.0) (stored_before c ds all.1)

pub stored_append : (cs ds : List DurableCell) (r slot : ℕ) → stored_at (cs ++ ds) r slot ≡ or_else (stored_at cs r slot) (stored_at ds r slot)
stored_append [] ds r slot = refl
stored_append (c ∷ cs) ds r slot = elim (cases_Bool (is_at r slot c)) [
  | inl here ↦ rw here refl
  | inr apart ↦ rw apart (stored_append cs ds r slot)
]

-- a cell that is put is found, and hides no other
pub stored_put : (c : DurableCell) (ds : List DurableCell) (r slot : ℕ) → stored_at (put_cell c ds) r slot ≡ cond (is_at r slot c) (Some c.value) (stored_at ds r slot)
stored_put c [] r slot = refl
stored_put c (d ∷ ds) r slot = let later = stored_put c ds r slot in grind (arith, nat_tests)

-- cells that are put hide those that were there
pub stored_puts : (cs ds : List DurableCell) (r slot : ℕ) → stored_at (put_cells cs ds) r slot ≡ or_else (stored_at cs r slot) (stored_at ds r slot)
stored_puts [] ds r slot = refl
stored_puts (c ∷ cs) ds r slot = stored_put c (put_cells cs ds) r slot ∙ (elim (cases_Bool (is_at r slot c)) [
  | inl here ↦ rw here refl
  | inr apart ↦ rw apart (stored_puts cs ds r slot)
])

-- ---- what stays rising

pub all_put : (P : DurableCell → Type 0) (c : DurableCell) (ds : List DurableCell) → P c → AllByRecursion P ds → AllByRecursion P (put_cell c ds)
all_put P c [] p all = (p, tt)
all_put P c (d ∷ ds) p all =
    cond_both (is_before c d) _ _ (AllByRecursion P)
    (λ e. (p, all))
    (λ e. cond_both (is_same_place c d) _ _ (AllByRecursion P) (λ f. (p, all.1)) (λ f. (all.0, all_put P c ds p all.1)))

not_before : (c d : DurableCell) → is_before c d ≡ false → is_same_place c d ≡ false → is_before d c ≡ true
not_before c d p q = grind (arith, nat_tests)

beside : (c d e : DurableCell) → is_same_place c d ≡ true → is_before d e ≡ true → is_before c e ≡ true
beside c d e p q = grind (arith, nat_tests)

beside_all : (c d : DurableCell) (ds : List DurableCell) → is_same_place c d ≡ true → AllByRecursion (λ e. IsTrue (is_before d e)) ds → AllByRecursion (λ e. IsTrue (is_before c e)) ds
beside_all c d [] p all = tt
beside_all c d (e ∷ es) p all = (beside c d e p all.0, beside_all c d es p all.1)

pub put_rises : (c : DurableCell) (ds : List DurableCell) → AreRising ds → AreRising (put_cell c ds)
put_rises c [] up = (tt, tt)
put_rises c (d ∷ ds) up =
    cond_both (is_before c d) _ _ AreRising
    (λ e. ((e, later_all c d ds e up.0), up))
    (λ e. cond_both (is_same_place c d) _ _ AreRising
    (λ f. (beside_all c d ds f up.0, up.1))
    (λ f. (all_put (λ x. IsTrue (is_before d x)) c ds (not_before c d e f) up.0, put_rises c ds up.1)))

pub puts_rise : (cs ds : List DurableCell) → AreRising ds → AreRising (put_cells cs ds)
puts_rise [] ds up = up
puts_rise (c ∷ cs) ds up = put_rises c (put_cells cs ds) (puts_rise cs ds up)

-- ---- rising lists with the same look-ups are one

head_found : (c : DurableCell) (cs : List DurableCell) → stored_at (c ∷ cs) c.r c.slot ≡ Some c.value
head_found c cs = let here : is_at c.r c.slot c ≡ true = grind (arith, nat_tests) in rw here refl

-- the look-ups behind the first cell
tail_found : (c d : DurableCell) (cs ds : List DurableCell) → c ≡ d → AreRising (c ∷ cs) → AreRising (d ∷ ds)
    → ((r slot : ℕ) → stored_at (c ∷ cs) r slot ≡ stored_at (d ∷ ds) r slot) → (r slot : ℕ) → stored_at cs r slot ≡ stored_at ds r slot
tail_found c d cs ds e up vp same r slot = elim (cases_Bool (is_at r slot c)) [
  | inl here ↦
      let p : c.r ≡ r = grind (arith, nat_tests) in
      let q : c.slot ≡ slot = grind (arith, nat_tests) in
      let left : stored_at cs r slot ≡ None = rw (← p, ← q) (stored_before c cs up.0) in
      let right : stored_at ds r slot ≡ None = rw (← p, ← q, e) (stored_before d ds vp.0) in
      left ∙ sym right
  | inr apart ↦
      let there : is_at r slot d ≡ false = rw (← e) apart in
      let whole = same r slot in
      rw (apart, there) at whole
]

cell_of : ℕ → ℕ → ℕ → DurableCell
cell_of r slot n = record { r = r; slot = slot; value = n }

same_cell : (c d : DurableCell) → c.r ≡ d.r → c.slot ≡ d.slot → c.value ≡ d.value → c ≡ d
unfolding cell_of
same_cell c d p q v = ap (λ r. cell_of r c.slot c.value) p ∙ ap (λ s. cell_of d.r s c.value) q ∙ ap (cell_of d.r d.slot) v

pub one_rising : (cs ds : List DurableCell) → AreRising cs → AreRising ds → ((r slot : ℕ) → stored_at cs r slot ≡ stored_at ds r slot) → cs ≡ ds
one_rising [] [] up vp same = refl
one_rising [] (d ∷ ds) up vp same = let clash : None ≡ Some d.value = same d.r d.slot ∙ head_found d ds in cc
one_rising (c ∷ cs) [] up vp same = let clash : Some c.value ≡ None = sym (head_found c cs) ∙ same c.r c.slot in cc
one_rising (c ∷ cs) (d ∷ ds) up vp same = elim (cases_Bool (is_before c d)) [
  | inl first ↦
      let clash : Some c.value ≡ None = sym (head_found c cs) ∙ same c.r c.slot ∙ stored_before c (d ∷ ds) (first, later_all c d ds first vp.0) in cc
  | inr other ↦ elim (cases_Bool (is_before d c)) [
    | inl last ↦
        let clash : Some d.value ≡ None = sym (head_found d ds) ∙ sym (same d.r d.slot) ∙ stored_before d (c ∷ cs) (last, later_all d c cs last up.0) in cc
    | inr level ↦
        let p : c.r ≡ d.r = grind (arith, nat_tests) in
        let q : c.slot ≡ d.slot = grind (arith, nat_tests) in
        let v : Some c.value ≡ Some d.value = sym (head_found c cs) ∙ same c.r c.slot ∙ rw (p, q) (head_found d ds) in
        let e : c ≡ d = same_cell c d p q cc in
        ap₂ ◌∷◌ e (one_rising cs ds up.1 vp.1 (tail_found c d cs ds e up vp same))
  ]
]
