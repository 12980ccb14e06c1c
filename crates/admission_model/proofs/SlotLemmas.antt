-- The slot of a counter names the counter again.
use Rattle.std.proofs.Common.{◌≡◌, ◌≢◌, ℕ, ◌+◌, ◌-◌, ◌<◌, ◌≤◌, ◌⊎◌, inl, inr, Bool, true, false, not, ◌&&◌, cond, eqb, ltb, Option, Some, None, refl, sym, ap, ◌∙◌, arith}
use Rattle.std.proofs.lemmas.Bool.{cases_eq, cases_lt, eq-eqb, ne_eqb, lt-ltb, le-ltb, and_left, and_from, cond-true, cond-false}
use Rattle.merge_core.specs.declared.cell.Cell.{Cell}
use Rattle.merge_core.specs.declared.cell.Cell.TheVariants.{Out, Taken, Ann, Fin}
use Rattle.admission_model.specs.Durable.{Named, of_other, named}
use Rattle.admission_model.specs.Restoring.{slot_if, slot_of}

abbrev pub counter_of_row : ℕ → Cell → Option Named
counter_of_row s cell = Some (record { s = s; cell = cell })

pub of_other-yes : (sites i j : ℕ) (cell : Cell) → j < sites → j ≢ i → of_other sites i j cell ≡ counter_of_row j cell
of_other-yes sites i j cell below apart =
    cond-true (ltb j sites && not (eqb j i)) (counter_of_row j cell) None (and_from (ltb j sites) (not (eqb j i)) (lt-ltb j sites below) (ap not (ne_eqb j i apart)))

pub of_other-no : (sites i j : ℕ) (cell : Cell) → sites ≤ j → of_other sites i j cell ≡ None
of_other-no sites i j cell past =
    cond-false (ltb j sites && not (eqb j i)) (counter_of_row j cell) None (and_left (ltb j sites) (not (eqb j i)) (le-ltb j sites past))

-- the slots of the own row
pub named_sent : (sites i j : ℕ) → j < sites → j < 100 → named sites i j ≡ counter_of_row i (Out j)
named_sent sites i j below few = cond-true (ltb j 100) _ _ (lt-ltb j 100 few) ∙ cond-true (ltb j sites) _ _ (lt-ltb j sites below)

pub named_sent_past : (sites i j : ℕ) → sites ≤ j → j < 100 → named sites i j ≡ None
named_sent_past sites i j past few = cond-true (ltb j 100) _ _ (lt-ltb j 100 few) ∙ cond-false (ltb j sites) _ _ (le-ltb j sites past)

-- the slots of other sites' rows
pub named_column : (sites i j : ℕ) → j < 100 → named sites i (100 + j) ≡ of_other sites i j (Out i)
named_column sites i j few =
    let back : 100 + j - 100 ≡ j = omega arith in
    cond-false (ltb (100 + j) 100) _ _ (le-ltb (100 + j) 100 (omega arith))
    ∙ (cond-true (ltb (100 + j) 200) _ _ (lt-ltb (100 + j) 200 (omega arith))
    ∙ ap (λ x. of_other sites i x (Out i)) back)

-- slots past those of the own row
pub high_slot : (sites i slot : ℕ) → 300 ≤ slot → named sites i slot ≡ cond (ltb slot 400) (of_other sites i (slot - 300) Ann) (of_other sites i (slot - 400) Fin)
high_slot sites i slot high =
    cond-false (ltb slot 100) _ _ (le-ltb slot 100 (omega arith))
    ∙ (cond-false (ltb slot 200) _ _ (le-ltb slot 200 (omega arith))
    ∙ (cond-false (eqb slot 200) _ _ (ne_eqb slot 200 (λ e. absurd (omega arith)))
    ∙ (cond-false (eqb slot 201) _ _ (ne_eqb slot 201 (λ e. absurd (omega arith)))
    ∙ (cond-false (eqb slot 202) _ _ (ne_eqb slot 202 (λ e. absurd (omega arith)))
    ∙ cond-false (ltb slot 300) _ _ (le-ltb slot 300 (omega arith))))))

pub named_announced : (sites i j : ℕ) → j < 100 → named sites i (300 + j) ≡ of_other sites i j Ann
named_announced sites i j few =
    let back : 300 + j - 300 ≡ j = omega arith in
    high_slot sites i (300 + j) (omega arith)
    ∙ (cond-true (ltb (300 + j) 400) _ _ (lt-ltb (300 + j) 400 (omega arith))
    ∙ ap (λ x. of_other sites i x Ann) back)

pub named_finished : (sites i j : ℕ) → named sites i (400 + j) ≡ of_other sites i j Fin
named_finished sites i j =
    let back : 400 + j - 400 ≡ j = omega arith in
    high_slot sites i (400 + j) (omega arith)
    ∙ (cond-false (ltb (400 + j) 400) _ _ (le-ltb (400 + j) 400 (omega arith))
    ∙ ap (λ x. of_other sites i x Fin) back)

-- the slot of a counter, by its row
pub slot_if-yes : (sites s slot : ℕ) → s < sites → slot_if sites s slot ≡ Some slot
slot_if-yes sites s slot below = cond-true (ltb s sites) (Some slot) None (lt-ltb s sites below)

pub slot_if-no : (sites s slot : ℕ) → sites ≤ s → slot_if sites s slot ≡ None
slot_if-no sites s slot past = cond-false (ltb s sites) (Some slot) None (le-ltb s sites past)

pub slot_sent : (sites i j : ℕ) → slot_of sites i i (Out j) ≡ slot_if sites j j
slot_sent sites i j = cond-true (eqb i i) (slot_if sites j j) (cond (eqb j i) (slot_if sites i (100 + i)) None) (eq-eqb i i refl)

pub slot_column : (sites i s : ℕ) → s ≢ i → slot_of sites i s (Out i) ≡ slot_if sites s (100 + s)
slot_column sites i s apart =
    cond-false (eqb s i) (slot_if sites i i) (cond (eqb i i) (slot_if sites s (100 + s)) None) (ne_eqb s i apart)
    ∙ cond-true (eqb i i) (slot_if sites s (100 + s)) None (eq-eqb i i refl)

pub slot_elsewhere : (sites i s j : ℕ) → s ≢ i → j ≢ i → slot_of sites i s (Out j) ≡ None
slot_elsewhere sites i s j apart apart_j =
    cond-false (eqb s i) (slot_if sites j j) (cond (eqb j i) (slot_if sites s (100 + s)) None) (ne_eqb s i apart)
    ∙ cond-false (eqb j i) (slot_if sites s (100 + s)) None (ne_eqb j i apart_j)

pub slot_taken : (sites i : ℕ) → slot_of sites i i Taken ≡ Some 200
slot_taken sites i = cond-true (eqb i i) (Some 200) None (eq-eqb i i refl)

pub slot_not_taken : (sites i s : ℕ) → s ≢ i → slot_of sites i s Taken ≡ None
slot_not_taken sites i s apart = cond-false (eqb s i) (Some 200) None (ne_eqb s i apart)

pub slot_announced : (sites i : ℕ) → slot_of sites i i Ann ≡ Some 201
slot_announced sites i = cond-true (eqb i i) (Some 201) (slot_if sites i (300 + i)) (eq-eqb i i refl)

pub slot_announced_other : (sites i s : ℕ) → s ≢ i → slot_of sites i s Ann ≡ slot_if sites s (300 + s)
slot_announced_other sites i s apart = cond-false (eqb s i) (Some 201) (slot_if sites s (300 + s)) (ne_eqb s i apart)

pub slot_finished : (sites i : ℕ) → slot_of sites i i Fin ≡ Some 202
slot_finished sites i = cond-true (eqb i i) (Some 202) (slot_if sites i (400 + i)) (eq-eqb i i refl)

pub slot_finished_other : (sites i s : ℕ) → s ≢ i → slot_of sites i s Fin ≡ slot_if sites s (400 + s)
slot_finished_other sites i s apart = cond-false (eqb s i) (Some 202) (slot_if sites s (400 + s)) (ne_eqb s i apart)

-- a counter of a site that is not there has no slot
pub slot_past : (sites i s : ℕ) (cell : Cell) → s ≢ i → sites ≤ s → slot_of sites i s cell ≡ None
slot_past sites i s (Out j) apart past = at (cases_eq j i)
  where
    at : (j ≡ i) ⊎ (j ≡ i → ⊥) → slot_of sites i s (Out j) ≡ None
    at (inl e) = ap (λ x. slot_of sites i s (Out x)) e ∙ (slot_column sites i s apart ∙ slot_if-no sites s (100 + s) past)
    at (inr ne) = slot_elsewhere sites i s j apart ne
slot_past sites i s Taken apart past = slot_not_taken sites i s apart
slot_past sites i s Ann apart past = slot_announced_other sites i s apart ∙ slot_if-no sites s (300 + s) past
slot_past sites i s Fin apart past = slot_finished_other sites i s apart ∙ slot_if-no sites s (400 + s) past

pub slot_sent_past : (sites i s j : ℕ) → i < sites → sites ≤ j → slot_of sites i s (Out j) ≡ None
slot_sent_past sites i s j there past = at (cases_eq s i)
  where
    at : (s ≡ i) ⊎ (s ≡ i → ⊥) → slot_of sites i s (Out j) ≡ None
    at (inl e) = ap (λ x. slot_of sites i x (Out j)) e ∙ (slot_sent sites i j ∙ slot_if-no sites j j past)
    at (inr ne) = slot_elsewhere sites i s j ne (λ e. absurd (omega arith))

-- with more sites a slot names the same counter
abbrev pub Stays : Option Named → Option Named → Type 0
Stays old new = (old ≡ None) ⊎ (new ≡ old)

stays_if : (b : Bool) (x y x2 y2 : Option Named) → Stays x x2 → Stays y y2 → Stays (cond b x y) (cond b x2 y2)
stays_if true x y x2 y2 first second = first
stays_if false x y x2 y2 first second = second

stays_own : (sites n slot : ℕ) (it : Option Named) → sites ≤ n → Stays (cond (ltb slot sites) it None) (cond (ltb slot n) it None)
stays_own sites n slot it more = at (cases_lt slot sites)
  where
    at : (slot < sites) ⊎ (sites ≤ slot) → Stays (cond (ltb slot sites) it None) (cond (ltb slot n) it None)
    at (inl below) = inr (ap (λ b. cond b it None) (lt-ltb slot n (omega arith) ∙ sym (lt-ltb slot sites below)))
    at (inr past) = inl (cond-false (ltb slot sites) it None (le-ltb slot sites past))

stays_other : (sites n i j : ℕ) (cell : Cell) → sites ≤ n → Stays (of_other sites i j cell) (of_other n i j cell)
stays_other sites n i j cell more = at (cases_lt j sites)
  where
    at : (j < sites) ⊎ (sites ≤ j) → Stays (of_other sites i j cell) (of_other n i j cell)
    at (inl below) =
        inr (ap (λ b. cond (b && not (eqb j i)) (counter_of_row j cell) None) (lt-ltb j n (omega arith) ∙ sym (lt-ltb j sites below)))
    at (inr past) = inl (of_other-no sites i j cell past)

pub named_stays : (sites n i slot : ℕ) → sites ≤ n → Stays (named sites i slot) (named n i slot)
named_stays sites n i slot more =
    stays_if (ltb slot 100) _ _ _ _ (stays_own sites n slot (counter_of_row i (Out slot)) more)
    (stays_if (ltb slot 200) _ _ _ _ (stays_other sites n i (slot - 100) (Out i) more)
    (stays_if (eqb slot 200) _ _ _ _ (inr refl)
    (stays_if (eqb slot 201) _ _ _ _ (inr refl)
    (stays_if (eqb slot 202) _ _ _ _ (inr refl)
    (stays_if (ltb slot 300) _ _ _ _ (inr refl)
    (stays_if (ltb slot 400) _ _ _ _ (stays_other sites n i (slot - 300) Ann more) (stays_other sites n i (slot - 400) Fin more)))))))
