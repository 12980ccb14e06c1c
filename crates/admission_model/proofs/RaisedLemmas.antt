-- The cells that an operation raises.
use Rattle.std.proofs.Common.{◌≡◌, ◌≢◌, ℕ, zero, suc, ◌+◌, ◌-◌, ◌<◌, ◌≤◌, ◌⊎◌, inl, inr, Bool, true, false, not, ◌&&◌, cond, eqb, ltb, List, [], ◌∷◌, ◌++◌, length, Option, Some, None, refl, sym, ap, ◌∙◌, arith}
use Rattle.std.proofs.lemmas.List.{append-nil}
use Rattle.std.proofs.lemmas.Bool.{cases_eq, cond_both, not-true, eqb-true, eq-eqb, ne_eqb, ltb-true, lt-ltb, le-ltb, and_parts, and_from, and_left, and_right, cond-true, cond-false}
use Rattle.merge_core.specs.declared.cell.Cell.{Cell}
use Rattle.merge_core.specs.declared.cell.Cell.TheVariants.{Out, Taken, Ann, Fin}
use Rattle.admission_model.specs.declared.durable.DurableCell.{DurableCell}
use Rattle.admission_model.specs.declared.operation.Operation.{Operation}
use Rattle.admission_model.specs.Account.{Account, seats_in, record_of, rise_of, phase_of}
use Rattle.admission_model.specs.Knowledge.{known}
use Rattle.admission_model.specs.Laws.{raised_to}
use Rattle.admission_model.specs.Durable.{Named, Place, of_other, named, counter_named, slots_from, places_from, slot_count, places, pick, risen_cells, slots_of}
use Rattle.admission_model.specs.Asked.{raised_cell}
use Rattle.admission_model.proofs.CounterLemmas.{does}
use Rattle.admission_model.proofs.StandsLemmas.{known_does}

-- the cell of a place where the test is true
abbrev pub cell_if : (ℕ → ℕ → Bool) → (ℕ → ℕ → ℕ) → ℕ → ℕ → List DurableCell
cell_if test value r k = cond (test r k) (record { r = r; slot = k; value = value r k } ∷ []) []

onto : (b : Bool) (c : DurableCell) (cs : List DurableCell) → cond b (c ∷ cs) cs ≡ cond b (c ∷ []) [] ++ cs
onto true c cs = refl
onto false c cs = refl

module _ (test : ℕ → ℕ → Bool) (value : ℕ → ℕ → ℕ) where
  pick_append : (xs ys : List Place) → pick test value (xs ++ ys) ≡ pick test value xs ++ pick test value ys
  pick_append [] ys = refl
  pick_append (p ∷ xs) ys = at (test p.r p.slot) (pick_append xs ys)
    where
      at : (b : Bool) → pick test value (xs ++ ys) ≡ pick test value xs ++ pick test value ys → cond b (record { r = p.r; slot = p.slot; value = value p.r p.slot } ∷ pick test value (xs ++ ys)) (pick test value (xs ++ ys)) ≡ cond b (record { r = p.r; slot = p.slot; value = value p.r p.slot } ∷ pick test value xs) (pick test value xs) ++ pick test value ys
      at true later = ap (λ cs. record { r = p.r; slot = p.slot; value = value p.r p.slot } ∷ cs) later
      at false later = later

  -- slots of which none, one or two pass
  no_slot : (r s n : ℕ) → ((k : ℕ) → s ≤ k → test r k ≡ false) → pick test value (slots_from r s n) ≡ []
  no_slot r s zero none = refl
  no_slot r s (suc n) none =
      cond-false (test r s) (record { r = r; slot = s; value = value r s } ∷ pick test value (slots_from r (s + 1) n)) (pick test value (slots_from r (s + 1) n)) (none s (omega arith))
      ∙ no_slot r (s + 1) n (λ k more. none k (omega arith))

  one_slot : (r s n k : ℕ) → s ≤ k → k < s + n → ((j : ℕ) → s ≤ j → j ≢ k → test r j ≡ false) → pick test value (slots_from r s n) ≡ cell_if test value r k
  one_slot r s zero k low high none = absurd (omega arith)
  one_slot r s (suc n) k low high none = at (cases_eq s k) (one_slot r (s + 1) n k)
    where
      at : (s ≡ k) ⊎ (s ≡ k → ⊥) → (s + 1 ≤ k → k < s + 1 + n → ((j : ℕ) → s + 1 ≤ j → j ≢ k → test r j ≡ false) → pick test value (slots_from r (s + 1) n) ≡ cell_if test value r k) → pick test value (slots_from r s (suc n)) ≡ cell_if test value r k
      at (inl e) later =
          ap (λ cs. cond (test r s) (record { r = r; slot = s; value = value r s } ∷ cs) cs) (no_slot r (s + 1) n (λ j more. none j (omega arith) (λ same. absurd (omega arith))))
          ∙ ap (cell_if test value r) e
      at (inr apart) later =
          cond-false (test r s) (record { r = r; slot = s; value = value r s } ∷ pick test value (slots_from r (s + 1) n)) (pick test value (slots_from r (s + 1) n)) (none s (omega arith) apart)
          ∙ later (omega arith) (omega arith) (λ j more other. none j (omega arith) other)

  two_slots : (r s n k l : ℕ) → s ≤ k → k < l → l < s + n → ((j : ℕ) → s ≤ j → j ≢ k → j ≢ l → test r j ≡ false) → pick test value (slots_from r s n) ≡ cell_if test value r k ++ cell_if test value r l
  two_slots r s zero k l low next high none = absurd (omega arith)
  two_slots r s (suc n) k l low next high none = at (cases_eq s k) (two_slots r (s + 1) n k l)
    where
      at : (s ≡ k) ⊎ (s ≡ k → ⊥) → (s + 1 ≤ k → k < l → l < s + 1 + n → ((j : ℕ) → s + 1 ≤ j → j ≢ k → j ≢ l → test r j ≡ false) → pick test value (slots_from r (s + 1) n) ≡ cell_if test value r k ++ cell_if test value r l) → pick test value (slots_from r s (suc n)) ≡ cell_if test value r k ++ cell_if test value r l
      at (inl e) later =
          onto (test r s) (record { r = r; slot = s; value = value r s }) (pick test value (slots_from r (s + 1) n))
          ∙ (ap (λ cs. cell_if test value r s ++ cs) (one_slot r (s + 1) n l (omega arith) (omega arith) (λ j more other. none j (omega arith) (λ same. absurd (omega arith)) other))
          ∙ ap (λ x. cell_if test value r x ++ cell_if test value r l) e)
      at (inr apart) later =
          cond-false (test r s) (record { r = r; slot = s; value = value r s } ∷ pick test value (slots_from r (s + 1) n)) (pick test value (slots_from r (s + 1) n)) (none s (omega arith) apart (λ same. absurd (omega arith)))
          ∙ later (omega arith) next (omega arith) (λ j more other another. none j (omega arith) other another)

  -- records of which none passes, and of which one may
  no_record : (r n : ℕ) → ((x k : ℕ) → r ≤ x → test x k ≡ false) → pick test value (places_from r n) ≡ []
  no_record r zero none = refl
  no_record r (suc n) none =
      pick_append (slots_from r 0 slot_count) (places_from (r + 1) n)
      ∙ (ap (λ cs. cs ++ pick test value (places_from (r + 1) n)) (no_slot r 0 slot_count (λ k more. none r k (omega arith)))
      ∙ no_record (r + 1) n (λ x k more. none x k (omega arith)))

  one_record : (r n x : ℕ) → r ≤ x → x < r + n → ((y k : ℕ) → r ≤ y → y ≢ x → test y k ≡ false) → pick test value (places_from r n) ≡ pick test value (slots_from x 0 slot_count)
  one_record r zero x low high none = absurd (omega arith)
  one_record r (suc n) x low high none =
      pick_append (slots_from r 0 slot_count) (places_from (r + 1) n) ∙ at (cases_eq r x) (one_record (r + 1) n x)
    where
      at : (r ≡ x) ⊎ (r ≡ x → ⊥) → (r + 1 ≤ x → x < r + 1 + n → ((y k : ℕ) → r + 1 ≤ y → y ≢ x → test y k ≡ false) → pick test value (places_from (r + 1) n) ≡ pick test value (slots_from x 0 slot_count)) → pick test value (slots_from r 0 slot_count) ++ pick test value (places_from (r + 1) n) ≡ pick test value (slots_from x 0 slot_count)
      at (inl e) later =
          ap (λ cs. pick test value (slots_from r 0 slot_count) ++ cs) (no_record (r + 1) n (λ y k more. none y k (omega arith) (λ same. absurd (omega arith))))
          ∙ (append-nil (pick test value (slots_from r 0 slot_count)) ∙ ap (λ y. pick test value (slots_from y 0 slot_count)) e)
      at (inr apart) later =
          ap (λ cs. cs ++ pick test value (places_from (r + 1) n)) (no_slot r 0 slot_count (λ k more. none r k (omega arith) apart))
          ∙ later (omega arith) (omega arith) (λ y k more other. none y k (omega arith) other)

slots_enough : 202 < slot_count
unfolding slot_count
slots_enough = omega arith

-- the new value of a counter that rises by so much
raised_if : (r k old new was by : ℕ) → old ≡ was → new ≡ was + by → cond (ltb old new) (record { r = r; slot = k; value = new } ∷ []) [] ≡ raised_cell r k was by
raised_if r k old new was by before later =
    ap (λ n. cond (ltb n new) (record { r = r; slot = k; value = new } ∷ []) []) before
    ∙ (ap (λ n. cond (ltb was n) (record { r = r; slot = k; value = n } ∷ []) []) later ∙ at (cases_eq by 0))
  where
    at : (by ≡ 0) ⊎ (by ≡ 0 → ⊥) → cond (ltb was (was + by)) (record { r = r; slot = k; value = was + by } ∷ []) [] ≡ raised_cell r k was by
    at (inl e) =
        cond-false (ltb was (was + by)) (record { r = r; slot = k; value = was + by } ∷ []) [] (le-ltb was (was + by) (omega arith))
        ∙ sym (cond-true (eqb by 0) [] (record { r = r; slot = k; value = was + by } ∷ []) (eq-eqb by 0 e))
    at (inr some) =
        cond-true (ltb was (was + by)) (record { r = r; slot = k; value = was + by } ∷ []) [] (lt-ltb was (was + by) (omega arith))
        ∙ sym (cond-false (eqb by 0) [] (record { r = r; slot = k; value = was + by } ∷ []) (ne_eqb by 0 some))

-- what an operation does to the slots of its site
module _ (a : Account) (operation : Operation) where
  -- the counter that an operation raises is one of its site's own row
  pub own_rise : (cell : Cell) → raised_to a operation (record_of operation) a.origin.site cell ≡ rise_of (seats_in a.origin.layout) a.origin.site (phase_of a) operation cell
  own_rise cell =
      cond-true (eqb a.origin.site a.origin.site && eqb (record_of operation) (record_of operation)) (rise_of (seats_in a.origin.layout) a.origin.site (phase_of a) operation cell) 0
      (and_from (eqb a.origin.site a.origin.site) (eqb (record_of operation) (record_of operation)) (eq-eqb a.origin.site a.origin.site refl) (eq-eqb (record_of operation) (record_of operation) refl))

  other_site : (r s : ℕ) (cell : Cell) → eqb s a.origin.site ≡ false → raised_to a operation r s cell ≡ 0
  other_site r s cell apart =
      cond-false (eqb s a.origin.site && eqb (record_of operation) r) (rise_of (seats_in a.origin.layout) a.origin.site (phase_of a) operation cell) 0
      (and_left (eqb s a.origin.site) (eqb (record_of operation) r) apart)

  other_record : (r s : ℕ) (cell : Cell) → r ≢ record_of operation → raised_to a operation r s cell ≡ 0
  other_record r s cell apart =
      cond-false (eqb s a.origin.site && eqb (record_of operation) r) (rise_of (seats_in a.origin.layout) a.origin.site (phase_of a) operation cell) 0
      (and_right (eqb s a.origin.site) (eqb (record_of operation) r) (ne_eqb (record_of operation) r (λ e. apart (sym e))))

  rises_named : (r : ℕ) (o : Option Named) → counter_named (known (does operation a)) r o ≡ counter_named (known a) r o + counter_named (raised_to a operation) r o
  rises_named r None = refl
  rises_named r (Some it) = known_does a operation r it.s it.cell

  none_elsewhere : (r : ℕ) → r ≢ record_of operation → (o : Option Named) → counter_named (raised_to a operation) r o ≡ 0
  none_elsewhere r apart None = refl
  none_elsewhere r apart (Some it) = other_record r it.s it.cell apart

  none_of_others : (r j : ℕ) (cell : Cell) → counter_named (raised_to a operation) r (of_other a.sites a.origin.site j cell) ≡ 0
  none_of_others r j cell =
      cond_both (ltb j a.sites && not (eqb j a.origin.site)) (Some (record { s = j; cell = cell })) None (λ o. counter_named (raised_to a operation) r o ≡ 0)
      (λ e. other_site r j cell (not-true (eqb j a.origin.site) (and_parts (ltb j a.sites) (not (eqb j a.origin.site)) e).1))
      (λ e. refl)

  -- a slot rises only where the operation raises the counter of the site's own row that it names
  pub none_at : (r slot : ℕ) → (slot < 100 → raised_to a operation r a.origin.site (Out slot) ≡ 0) → (slot ≡ 200 → raised_to a operation r a.origin.site Taken ≡ 0) → (slot ≡ 201 → raised_to a operation r a.origin.site Ann ≡ 0) → (slot ≡ 202 → raised_to a operation r a.origin.site Fin ≡ 0) → counter_named (raised_to a operation) r (named a.sites a.origin.site slot) ≡ 0
  none_at r slot out taken ann fin =
      let P : Option Named → Type 0 = λ o. counter_named (raised_to a operation) r o ≡ 0 in
      cond_both (ltb slot 100) _ _ P (λ e. cond_both (ltb slot a.sites) _ _ P (λ d. out (ltb-true slot 100 e)) (λ d. refl)) (λ e.
      cond_both (ltb slot 200) _ _ P (λ d. none_of_others r (slot - 100) (Out a.origin.site)) (λ d.
      cond_both (eqb slot 200) _ _ P (λ c. taken (eqb-true slot 200 c)) (λ c.
      cond_both (eqb slot 201) _ _ P (λ b. ann (eqb-true slot 201 b)) (λ b.
      cond_both (eqb slot 202) _ _ P (λ x. fin (eqb-true slot 202 x)) (λ x.
      cond_both (ltb slot 300) _ _ P (λ f. refl) (λ f.
      cond_both (ltb slot 400) _ _ P (λ g. none_of_others r (slot - 300) Ann) (λ g. none_of_others r (slot - 400) Fin)))))))

  none_where : (r slot : ℕ) → counter_named (raised_to a operation) r (named a.sites a.origin.site slot) ≡ 0 → ltb (slots_of a r slot) (slots_of (does operation a) r slot) ≡ false
  none_where r slot e =
      le-ltb (slots_of a r slot) (slots_of (does operation a) r slot) (omega (arith, rises_named r (named a.sites a.origin.site slot)))

  -- the cell at a slot that names a counter of the site's own row
  cell_at_own : (k : ℕ) (cell : Cell) → named a.sites a.origin.site k ≡ Some (record { s = a.origin.site; cell = cell }) → cell_if (λ r slot. ltb (slots_of a r slot) (slots_of (does operation a) r slot)) (slots_of (does operation a)) (record_of operation) k ≡ raised_cell (record_of operation) k (known a (record_of operation) a.origin.site cell) (rise_of (seats_in a.origin.layout) a.origin.site (phase_of a) operation cell)
  cell_at_own k cell is =
      raised_if (record_of operation) k (slots_of a (record_of operation) k) (slots_of (does operation a) (record_of operation) k) (known a (record_of operation) a.origin.site cell) (rise_of (seats_in a.origin.layout) a.origin.site (phase_of a) operation cell)
      (ap (counter_named (known a) (record_of operation)) is)
      (ap (counter_named (known (does operation a)) (record_of operation)) is
      ∙ (known_does a operation (record_of operation) a.origin.site cell ∙ ap (λ n. known a (record_of operation) a.origin.site cell + n) (own_rise cell)))

  at_record : record_of operation < length a.origin.layout.records → risen_cells (slots_of a) (slots_of (does operation a)) (places a.origin.layout) ≡ pick (λ r slot. ltb (slots_of a r slot) (slots_of (does operation a) r slot)) (slots_of (does operation a)) (slots_from (record_of operation) 0 slot_count)
  at_record there =
      one_record (λ r slot. ltb (slots_of a r slot) (slots_of (does operation a) r slot)) (slots_of (does operation a)) 0 (length a.origin.layout.records) (record_of operation) (omega arith) (omega arith)
      (λ y k more apart. none_where y k (none_elsewhere y apart (named a.sites a.origin.site k)))

  -- an operation that raises one counter
  pub one_raised : (k : ℕ) (cell : Cell) → record_of operation < length a.origin.layout.records → k ≤ 202 → named a.sites a.origin.site k ≡ Some (record { s = a.origin.site; cell = cell }) → ((j : ℕ) → j ≢ k → counter_named (raised_to a operation) (record_of operation) (named a.sites a.origin.site j) ≡ 0) → risen_cells (slots_of a) (slots_of (does operation a)) (places a.origin.layout) ≡ raised_cell (record_of operation) k (known a (record_of operation) a.origin.site cell) (rise_of (seats_in a.origin.layout) a.origin.site (phase_of a) operation cell)
  one_raised k cell there low is none =
      at_record there
      ∙ (one_slot (λ r slot. ltb (slots_of a r slot) (slots_of (does operation a) r slot)) (slots_of (does operation a)) (record_of operation) 0 slot_count k (omega arith) (omega (arith, slots_enough)) (λ j more apart. none_where (record_of operation) j (none j apart))
      ∙ cell_at_own k cell is)

  -- and one that raises two
  pub two_raised : (k l : ℕ) (first second : Cell) → record_of operation < length a.origin.layout.records → k < l → l ≤ 202 → named a.sites a.origin.site k ≡ Some (record { s = a.origin.site; cell = first }) → named a.sites a.origin.site l ≡ Some (record { s = a.origin.site; cell = second }) → ((j : ℕ) → j ≢ k → j ≢ l → counter_named (raised_to a operation) (record_of operation) (named a.sites a.origin.site j) ≡ 0) → risen_cells (slots_of a) (slots_of (does operation a)) (places a.origin.layout) ≡ raised_cell (record_of operation) k (known a (record_of operation) a.origin.site first) (rise_of (seats_in a.origin.layout) a.origin.site (phase_of a) operation first) ++ raised_cell (record_of operation) l (known a (record_of operation) a.origin.site second) (rise_of (seats_in a.origin.layout) a.origin.site (phase_of a) operation second)
  two_raised k l first second there next low is_first is_second none =
      at_record there
      ∙ (two_slots (λ r slot. ltb (slots_of a r slot) (slots_of (does operation a) r slot)) (slots_of (does operation a)) (record_of operation) 0 slot_count k l (omega arith) next (omega (arith, slots_enough)) (λ j more apart other. none_where (record_of operation) j (none j apart other))
      ∙ (ap (λ cs. cs ++ cell_if (λ r slot. ltb (slots_of a r slot) (slots_of (does operation a) r slot)) (slots_of (does operation a)) (record_of operation) l) (cell_at_own k first is_first)
      ∙ ap (λ cs. raised_cell (record_of operation) k (known a (record_of operation) a.origin.site first) (rise_of (seats_in a.origin.layout) a.origin.site (phase_of a) operation first) ++ cs) (cell_at_own l second is_second)))
