-- Lists of slots, what is picked of them, and which counter each slot names.
use Rattle.std.proofs.Common.{◌≡◌, ◌≢◌, ℕ, zero, suc, ◌+◌, ◌-◌, ◌<◌, ◌≤◌, Bool, true, false, ◌&&◌, not, cond, eqb, ltb, List, [], ◌∷◌, ◌++◌, Some, None, refl, sym, ap, ◌∙◌, append_assoc, arith}
use Rattle.std.proofs.lemmas.Bool.{eq-eqb, ne_eqb, lt-ltb, le-ltb, and_left, and_right, and_from, cond-true, cond-false}
use Rattle.merge_core.specs.declared.cell.Cell.{Cell}
use Rattle.merge_core.specs.declared.cell.Cell.TheVariants.{Out, Taken, Ann, Fin}
use Rattle.admission_model.specs.declared.durable.DurableCell.{DurableCell}
use Rattle.admission_model.specs.Durable.{Place, of_other, named, slots_from, places_from, slot_count, pick}

-- ---- lists of places

-- slots, and further ones
pub slots_append : (r a m n k : ℕ) → k ≡ m + n → slots_from r a k ≡ slots_from r a m ++ slots_from r (a + m) n
slots_append r a zero n k e =
    let same : k ≡ n = omega arith in
    let start : a ≡ a + 0 = omega arith in
    ap (slots_from r a) same ∙ ap (λ x. slots_from r x n) start
slots_append r a (suc m) n zero e = absurd (omega arith)
slots_append r a (suc m) n (suc k) e =
    let start : (a + 1) + m ≡ a + suc m = omega arith in
    ap (λ ps. record { r = r; slot = a } ∷ ps) (slots_append r (a + 1) m n k (omega arith) ∙ ap (λ x. slots_from r (a + 1) m ++ slots_from r x n) start)

-- the places of records, and of further ones
pub places_append : (a m n k : ℕ) → k ≡ m + n → places_from a k ≡ places_from a m ++ places_from (a + m) n
places_append a zero n k e =
    let same : k ≡ n = omega arith in
    let start : a ≡ a + 0 = omega arith in
    ap (places_from a) same ∙ ap (λ x. places_from x n) start
places_append a (suc m) n zero e = absurd (omega arith)
places_append a (suc m) n (suc k) e =
    let start : (a + 1) + m ≡ a + suc m = omega arith in
    ap (λ ps. slots_from a 0 slot_count ++ ps) (places_append (a + 1) m n k (omega arith) ∙ ap (λ x. places_from (a + 1) m ++ places_from x n) start)
    ∙ sym (append_assoc (slots_from a 0 slot_count) (places_from (a + 1) m) (places_from (a + suc m) n))

-- ---- what is picked

pub pick-yes : (test : ℕ → ℕ → Bool) (value : ℕ → ℕ → ℕ) (p : Place) (ps : List Place) → test p.r p.slot ≡ true
    → pick test value (p ∷ ps) ≡ record { r = p.r; slot = p.slot; value = value p.r p.slot } ∷ pick test value ps
pick-yes test value p ps e =
    cond-true (test p.r p.slot) (record { r = p.r; slot = p.slot; value = value p.r p.slot } ∷ pick test value ps) (pick test value ps) e

pub pick-no : (test : ℕ → ℕ → Bool) (value : ℕ → ℕ → ℕ) (p : Place) (ps : List Place) → test p.r p.slot ≡ false
    → pick test value (p ∷ ps) ≡ pick test value ps
pick-no test value p ps e =
    cond-false (test p.r p.slot) (record { r = p.r; slot = p.slot; value = value p.r p.slot } ∷ pick test value ps) (pick test value ps) e

pub pick-append : (test : ℕ → ℕ → Bool) (value : ℕ → ℕ → ℕ) (xs ys : List Place)
    → pick test value (xs ++ ys) ≡ pick test value xs ++ pick test value ys
pick-append test value [] ys = refl
pick-append test value (p ∷ xs) ys = at (test p.r p.slot) (pick-append test value xs ys)
  where
    cell : DurableCell
    cell = record { r = p.r; slot = p.slot; value = value p.r p.slot }

    at : (b : Bool) → pick test value (xs ++ ys) ≡ pick test value xs ++ pick test value ys
        → cond b (cell ∷ pick test value (xs ++ ys)) (pick test value (xs ++ ys)) ≡ cond b (cell ∷ pick test value xs) (pick test value xs) ++ pick test value ys
    at true later = ap (λ cs. cell ∷ cs) later
    at false later = later

-- slots none of which passes
pub pick-no_slots : (test : ℕ → ℕ → Bool) (value : ℕ → ℕ → ℕ) (r a n : ℕ)
    → ((slot : ℕ) → a ≤ slot → slot < a + n → test r slot ≡ false) → pick test value (slots_from r a n) ≡ []
pick-no_slots test value r a zero none = refl
pick-no_slots test value r a (suc n) none =
    pick-no test value (record { r = r; slot = a }) (slots_from r (a + 1) n) (none a (omega arith) (omega arith))
    ∙ pick-no_slots test value r (a + 1) n (λ slot above below. none slot (omega arith) (omega arith))

-- records none of whose slots passes
pub pick-no_records : (test : ℕ → ℕ → Bool) (value : ℕ → ℕ → ℕ) (a n : ℕ)
    → ((r slot : ℕ) → a ≤ r → r < a + n → test r slot ≡ false) → pick test value (places_from a n) ≡ []
pick-no_records test value a zero none = refl
pick-no_records test value a (suc n) none =
    pick-append test value (slots_from a 0 slot_count) (places_from (a + 1) n)
    ∙ (ap (λ cs. cs ++ pick test value (places_from (a + 1) n)) (pick-no_slots test value a 0 slot_count (λ slot above below. none a slot (omega arith) (omega arith)))
    ∙ pick-no_records test value (a + 1) n (λ r slot above below. none r slot (omega arith) (omega arith)))

-- ---- the slots of a record, by hundreds

-- the slots of one kind; their number is kept from unfolding
unfoldable pub hundred : ℕ
hundred = 100

-- the slots of the last kind
unfoldable pub sixteen : ℕ
sixteen = 16

pub hundred-is : hundred ≡ 100
unfolding hundred
hundred-is = refl

pub sixteen-is : sixteen ≡ 16
unfolding sixteen
sixteen-is = refl

slot_count-is : slot_count ≡ 416
unfolding slot_count
slot_count-is = refl

-- slots, a hundred at first
by_hundred : (test : ℕ → ℕ → Bool) (value : ℕ → ℕ → ℕ) (r a b k n : ℕ) → k ≡ hundred + n → b ≡ a + 100
    → pick test value (slots_from r a k) ≡ pick test value (slots_from r a hundred) ++ pick test value (slots_from r b n)
by_hundred test value r a b k n more next =
    let start : a + hundred ≡ b = omega (arith, hundred-is) in
    ap (pick test value) (slots_append r a hundred n k more)
    ∙ (pick-append test value (slots_from r a hundred) (slots_from r (a + hundred) n)
    ∙ ap (λ x. pick test value (slots_from r a hundred) ++ pick test value (slots_from r x n)) start)

-- all slots of a record
pub by_hundreds : (test : ℕ → ℕ → Bool) (value : ℕ → ℕ → ℕ) (r : ℕ)
    → pick test value (slots_from r 0 slot_count) ≡ pick test value (slots_from r 0 hundred) ++ (pick test value (slots_from r 100 hundred) ++ (pick test value (slots_from r 200 hundred) ++ (pick test value (slots_from r 300 hundred) ++ pick test value (slots_from r 400 sixteen))))
by_hundreds test value r =
    let all : slot_count ≡ hundred + (hundred + (hundred + (hundred + sixteen))) = omega (arith, slot_count-is, hundred-is, sixteen-is) in
    by_hundred test value r 0 100 slot_count (hundred + (hundred + (hundred + sixteen))) all refl
    ∙ ap (λ cs. pick test value (slots_from r 0 hundred) ++ cs) (by_hundred test value r 100 200 _ (hundred + (hundred + sixteen)) refl refl
    ∙ ap (λ cs. pick test value (slots_from r 100 hundred) ++ cs) (by_hundred test value r 200 300 _ (hundred + sixteen) refl refl
    ∙ ap (λ cs. pick test value (slots_from r 200 hundred) ++ cs) (by_hundred test value r 300 400 _ sixteen refl refl)))

-- ---- which counter a slot names

pub named-own : (sites i slot : ℕ) → slot < 100
    → named sites i slot ≡ cond (ltb slot sites) (Some (record { s = i; cell = Out slot })) None
named-own sites i slot low = rw (lt-ltb slot 100 low) refl

pub named-sent : (sites i s : ℕ) → s < 100 → named sites i (100 + s) ≡ of_other sites i s (Out i)
named-sent sites i s low =
    let back : (100 + s) - 100 ≡ s = omega arith in
    let past : ltb (100 + s) 100 ≡ false = le-ltb (100 + s) 100 (omega arith) in
    let here : ltb (100 + s) 200 ≡ true = lt-ltb (100 + s) 200 (omega arith) in
    rw (past, here) (ap (λ j. of_other sites i j (Out i)) back)

pub named-counted : (sites i slot : ℕ) → 200 ≤ slot → slot < 300
    → named sites i slot ≡ cond (eqb slot 200) (Some (record { s = i; cell = Taken })) (cond (eqb slot 201) (Some (record { s = i; cell = Ann })) (cond (eqb slot 202) (Some (record { s = i; cell = Fin })) None))
named-counted sites i slot high low =
    let past : ltb slot 100 ≡ false = le-ltb slot 100 (omega arith) in
    let past2 : ltb slot 200 ≡ false = le-ltb slot 200 (omega arith) in
    let here : ltb slot 300 ≡ true = lt-ltb slot 300 low in
    rw (past, past2, here) refl

pub named-announced : (sites i s : ℕ) → s < 100 → named sites i (300 + s) ≡ of_other sites i s Ann
named-announced sites i s low =
    let back : (300 + s) - 300 ≡ s = omega arith in
    let past : ltb (300 + s) 100 ≡ false = le-ltb (300 + s) 100 (omega arith) in
    let past2 : ltb (300 + s) 200 ≡ false = le-ltb (300 + s) 200 (omega arith) in
    let past3 : ltb (300 + s) 300 ≡ false = le-ltb (300 + s) 300 (omega arith) in
    let here : ltb (300 + s) 400 ≡ true = lt-ltb (300 + s) 400 (omega arith) in
    let not0 : eqb (300 + s) 200 ≡ false = ne_eqb (300 + s) 200 (λ e. absurd (omega arith)) in
    let not1 : eqb (300 + s) 201 ≡ false = ne_eqb (300 + s) 201 (λ e. absurd (omega arith)) in
    let not2 : eqb (300 + s) 202 ≡ false = ne_eqb (300 + s) 202 (λ e. absurd (omega arith)) in
    rw (past, past2, not0, not1, not2, past3, here) (ap (λ j. of_other sites i j Ann) back)

pub named-finished : (sites i s : ℕ) → named sites i (400 + s) ≡ of_other sites i s Fin
named-finished sites i s =
    let back : (400 + s) - 400 ≡ s = omega arith in
    let past : ltb (400 + s) 100 ≡ false = le-ltb (400 + s) 100 (omega arith) in
    let past2 : ltb (400 + s) 200 ≡ false = le-ltb (400 + s) 200 (omega arith) in
    let past3 : ltb (400 + s) 300 ≡ false = le-ltb (400 + s) 300 (omega arith) in
    let past4 : ltb (400 + s) 400 ≡ false = le-ltb (400 + s) 400 (omega arith) in
    let not0 : eqb (400 + s) 200 ≡ false = ne_eqb (400 + s) 200 (λ e. absurd (omega arith)) in
    let not1 : eqb (400 + s) 201 ≡ false = ne_eqb (400 + s) 201 (λ e. absurd (omega arith)) in
    let not2 : eqb (400 + s) 202 ≡ false = ne_eqb (400 + s) 202 (λ e. absurd (omega arith)) in
    rw (past, past2, not0, not1, not2, past3, past4) (ap (λ j. of_other sites i j Fin) back)

pub of_other-there : (sites i j : ℕ) (cell : Cell) → j < sites → j ≢ i
    → of_other sites i j cell ≡ Some (record { s = j; cell = cell })
of_other-there sites i j cell below apart =
    cond-true (ltb j sites && not (eqb j i)) (Some (record { s = j; cell = cell })) None
    (and_from (ltb j sites) (not (eqb j i)) (lt-ltb j sites below) (ap not (ne_eqb j i apart)))

pub of_other-past : (sites i j : ℕ) (cell : Cell) → sites ≤ j → of_other sites i j cell ≡ None
of_other-past sites i j cell past =
    cond-false (ltb j sites && not (eqb j i)) (Some (record { s = j; cell = cell })) None
    (and_left (ltb j sites) (not (eqb j i)) (le-ltb j sites past))

pub of_other-own : (sites i j : ℕ) (cell : Cell) → j ≡ i → of_other sites i j cell ≡ None
of_other-own sites i j cell same =
    cond-false (ltb j sites && not (eqb j i)) (Some (record { s = j; cell = cell })) None
    (and_right (ltb j sites) (not (eqb j i)) (ap not (eq-eqb j i same)))
