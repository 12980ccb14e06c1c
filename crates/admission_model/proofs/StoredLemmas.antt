-- What a store finds again of the cells of a durable part.
use Rattle.std.proofs.Common.{◌≡◌, ℕ, zero, suc, ◌+◌, ◌<◌, ◌≤◌, ◌⊎◌, inl, inr, Bool, true, false, not, ◌&&◌, ◌||◌, eqb, List, [], ◌∷◌, ◌++◌, Option, Some, None, unwrap_or, refl, sym, ap, subst, ◌∙◌, arith}
use Rattle.std.specs.List.{AllByRecursion}
use Rattle.std.proofs.lemmas.Bool.{cases_eq, cases_Bool, cond_both, eqb-true, eq-eqb, ne_eqb, and_parts, and_left, and_from, or_left, or_right, cond-true, cond-false}
use Rattle.admission_model.specs.Durable.{Place, slots_from, places_from, slot_count, pick, kept_cells}
use Rattle.admission_model.specs.declared.durable.DurableCell.{DurableCell}
use Rattle.admission_model.specs.Restoring.{stored_at}

-- whether a place is in a list
pub has_place : List Place → ℕ → ℕ → Bool
has_place [] r slot = false
has_place (p ∷ ps) r slot = (eqb p.r r && eqb p.slot slot) || has_place ps r slot

has_place-left : (xs ys : List Place) (r slot : ℕ) → has_place xs r slot ≡ true → has_place (xs ++ ys) r slot ≡ true
unfolding has_place
has_place-left [] ys r slot e = cc
has_place-left (x ∷ xs) ys r slot e = at (cases_Bool (eqb x.r r && eqb x.slot slot)) (has_place-left xs ys r slot)
  where
    at : ((eqb x.r r && eqb x.slot slot) ≡ true) ⊎ ((eqb x.r r && eqb x.slot slot) ≡ false) → (has_place xs r slot ≡ true → has_place (xs ++ ys) r slot ≡ true) → has_place (x ∷ (xs ++ ys)) r slot ≡ true
    at (inl here) later = or_left (eqb x.r r && eqb x.slot slot) (has_place (xs ++ ys) r slot) here
    at (inr apart) later =
        or_right (eqb x.r r && eqb x.slot slot) (has_place (xs ++ ys) r slot) (later (sym (ap (λ b. b || has_place xs r slot) apart) ∙ e))

has_place-right : (xs ys : List Place) (r slot : ℕ) → has_place ys r slot ≡ true → has_place (xs ++ ys) r slot ≡ true
unfolding has_place
has_place-right [] ys r slot e = e
has_place-right (x ∷ xs) ys r slot e = or_right (eqb x.r r && eqb x.slot slot) (has_place (xs ++ ys) r slot) (has_place-right xs ys r slot e)

-- n slots from one on are all there
slots_have : (r first n slot : ℕ) → first ≤ slot → slot < first + n → has_place (slots_from r first n) r slot ≡ true
unfolding has_place
slots_have r first zero slot low high = absurd (omega arith)
slots_have r first (suc n) slot low high = at (cases_eq first slot) (slots_have r (first + 1) n slot)
  where
    at : (first ≡ slot) ⊎ (first ≡ slot → ⊥) → (first + 1 ≤ slot → slot < first + 1 + n → has_place (slots_from r (first + 1) n) r slot ≡ true) → has_place (slots_from r first (suc n)) r slot ≡ true
    at (inl e) later = or_left (eqb r r && eqb first slot) _ (and_from (eqb r r) (eqb first slot) (eq-eqb r r refl) (eq-eqb first slot e))
    at (inr ne) later = or_right (eqb r r && eqb first slot) _ (later (omega arith) (omega arith))

pub places_have : (first n r slot : ℕ) → first ≤ r → r < first + n → slot < slot_count → has_place (places_from first n) r slot ≡ true
places_have first zero r slot low high few = absurd (omega arith)
places_have first (suc n) r slot low high few = at (cases_eq first r) (places_have (first + 1) n r slot)
  where
    at : (first ≡ r) ⊎ (first ≡ r → ⊥) → (first + 1 ≤ r → r < first + 1 + n → slot < slot_count → has_place (places_from (first + 1) n) r slot ≡ true) → has_place (places_from first (suc n)) r slot ≡ true
    at (inl e) later =
        has_place-left (slots_from first 0 slot_count) (places_from (first + 1) n) r slot
        (subst (λ (x : ℕ). has_place (slots_from first 0 slot_count) x slot ≡ true) e (slots_have first 0 slot_count slot (omega arith) (omega arith)))
    at (inr ne) later = has_place-right (slots_from first 0 slot_count) (places_from (first + 1) n) r slot (later (omega arith) (omega arith) few)

-- the record of each place is below the end
pub places_below : (first n : ℕ) → AllByRecursion (λ p. p.r < first + n) (places_from first n)
places_below first zero = tt
places_below first (suc n) = both (slots_from first 0 slot_count) (slots_of_record 0 slot_count) (further (places_from (first + 1) n) (places_below (first + 1) n))
  where
    slots_of_record : (slot m : ℕ) → AllByRecursion (λ p. p.r < first + suc n) (slots_from first slot m)
    slots_of_record slot zero = tt
    slots_of_record slot (suc m) = (omega arith, slots_of_record (slot + 1) m)

    further : (ps : List Place) → AllByRecursion (λ p. p.r < first + 1 + n) ps → AllByRecursion (λ p. p.r < first + suc n) ps
    further [] all = tt
    further (p ∷ ps) all = (omega (arith, all.0), further ps all.1)

    both : (xs : List Place) → AllByRecursion (λ p. p.r < first + suc n) xs → AllByRecursion (λ p. p.r < first + suc n) (places_from (first + 1) n) → AllByRecursion (λ p. p.r < first + suc n) (xs ++ places_from (first + 1) n)
    both [] a b = b
    both (x ∷ xs) a b = (a.0, both xs a.1 b)

-- what is picked passes the test, at a place that was there
pub picked : (P : DurableCell → Type 0) (Q : Place → Type 0) (test : ℕ → ℕ → Bool) (value : ℕ → ℕ → ℕ) → ((p : Place) → Q p → test p.r p.slot ≡ true → P (record { r = p.r; slot = p.slot; value = value p.r p.slot })) → (ps : List Place) → AllByRecursion Q ps → AllByRecursion P (pick test value ps)
picked P Q test value each [] all = tt
picked P Q test value each (p ∷ ps) all =
    cond_both (test p.r p.slot) _ _ (AllByRecursion P) (λ e. (each p all.0 e, picked P Q test value each ps all.1)) (λ e. picked P Q test value each ps all.1)

-- a cell that is found has the value of its place
abbrev HasValue : Option ℕ → ℕ → Type 0
HasValue o v = (o ≡ None) ⊎ (o ≡ Some v)

at_place : (value : ℕ → ℕ → ℕ) (p : Place) (r slot : ℕ) → (eqb p.r r && eqb p.slot slot) ≡ true → value p.r p.slot ≡ value r slot
at_place value p r slot e =
    let parts = and_parts (eqb p.r r) (eqb p.slot slot) e in
    ap (λ x. value x p.slot) (eqb-true p.r r parts.0) ∙ ap (value r) (eqb-true p.slot slot parts.1)

found_value : (test : ℕ → ℕ → Bool) (value : ℕ → ℕ → ℕ) (r slot : ℕ) (ps : List Place) → HasValue (stored_at (pick test value ps) r slot) (value r slot)
found_value test value r slot [] = inl refl
found_value test value r slot (p ∷ ps) =
    cond_both (test p.r p.slot) _ _ (λ cs. HasValue (stored_at cs r slot) (value r slot))
    (λ e. cond_both (eqb p.r r && eqb p.slot slot) _ _ (λ o. HasValue o (value r slot)) (λ here. inr (ap Some (at_place value p r slot here))) (λ apart. found_value test value r slot ps))
    (λ e. found_value test value r slot ps)

-- a picked place is found
found_there : (test : ℕ → ℕ → Bool) (value : ℕ → ℕ → ℕ) (r slot : ℕ) → test r slot ≡ true → (ps : List Place) → has_place ps r slot ≡ true → stored_at (pick test value ps) r slot ≡ Some (value r slot)
unfolding has_place
found_there test value r slot passes [] there = cc
found_there test value r slot passes (p ∷ ps) there = at (cases_Bool (eqb p.r r && eqb p.slot slot)) (found_there test value r slot passes ps)
  where
    at : ((eqb p.r r && eqb p.slot slot) ≡ true) ⊎ ((eqb p.r r && eqb p.slot slot) ≡ false) → (has_place ps r slot ≡ true → stored_at (pick test value ps) r slot ≡ Some (value r slot)) → stored_at (pick test value (p ∷ ps)) r slot ≡ Some (value r slot)
    at (inl here) later =
        let parts = and_parts (eqb p.r r) (eqb p.slot slot) here in
        let tested : test p.r p.slot ≡ true = ap (λ x. test x p.slot) (eqb-true p.r r parts.0) ∙ (ap (test r) (eqb-true p.slot slot parts.1) ∙ passes) in
        cond_both (test p.r p.slot) _ _ (λ cs. stored_at cs r slot ≡ Some (value r slot))
        (λ e. cond-true (eqb p.r r && eqb p.slot slot) _ _ here ∙ ap Some (at_place value p r slot here))
        (λ e. let clash : true ≡ false = sym tested ∙ e in cc)
    at (inr apart) later =
        let rest = later (sym (ap (λ b. b || has_place ps r slot) apart) ∙ there) in
        cond_both (test p.r p.slot) _ _ (λ cs. stored_at cs r slot ≡ Some (value r slot))
        (λ e. cond-false (eqb p.r r && eqb p.slot slot) _ _ apart ∙ rest)
        (λ e. rest)

-- what has left its start is stored, and what is not stored is at its start
pub stored_or_start : (start value : ℕ → ℕ → ℕ) (r slot : ℕ) (ps : List Place) → has_place ps r slot ≡ true → unwrap_or (stored_at (kept_cells start value ps) r slot) (start r slot) ≡ value r slot
stored_or_start start value r slot ps there = at (cases_eq (value r slot) (start r slot))
  where
    level : value r slot ≡ start r slot → HasValue (stored_at (kept_cells start value ps) r slot) (value r slot) → unwrap_or (stored_at (kept_cells start value ps) r slot) (start r slot) ≡ value r slot
    level same (inl none) = ap (λ o. unwrap_or o (start r slot)) none ∙ sym same
    level same (inr some) = ap (λ o. unwrap_or o (start r slot)) some

    at : (value r slot ≡ start r slot) ⊎ (value r slot ≡ start r slot → ⊥) → unwrap_or (stored_at (kept_cells start value ps) r slot) (start r slot) ≡ value r slot
    at (inl same) = level same (found_value (λ q k. not (eqb (value q k) (start q k))) value r slot ps)
    at (inr moved) =
        ap (λ o. unwrap_or o (start r slot))
        (found_there (λ q k. not (eqb (value q k) (start q k))) value r slot (ap not (ne_eqb (value r slot) (start r slot) moved)) ps there)

-- records that no cell is of
pub stored_past : (n r slot : ℕ) (cells : List DurableCell) → AllByRecursion (λ c. c.r < n) cells → n ≤ r → stored_at cells r slot ≡ None
stored_past n r slot [] all past = refl
stored_past n r slot (c ∷ cs) all past =
    cond-false (eqb c.r r && eqb c.slot slot) (Some c.value) (stored_at cs r slot) (and_left (eqb c.r r) (eqb c.slot slot) (ne_eqb c.r r (λ e. absurd (omega (arith, all.0)))))
    ∙ stored_past n r slot cs all.1 past
