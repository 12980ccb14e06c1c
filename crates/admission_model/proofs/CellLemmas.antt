-- The cells of a durable part, and what a change puts.
use Rattle.std.proofs.Common.{◌≡◌, ℕ, zero, suc, ◌+◌, ◌-◌, ◌≤◌, ◌⊎◌, inl, inr, Bool, true, false, not, ◌&&◌, ◌||◌, cond, eqb, ltb, List, [], ◌∷◌, ◌++◌, Option, Some, None, refl, sym, ap, subst, ◌∙◌, arith}
use Rattle.std.specs.List.{AllByRecursion}
use Rattle.std.proofs.lemmas.Bool.{cases_eq, cases_Bool, cond_both, eqb-true, eq-eqb, ne_eqb, ltb-true, ltb-false, lt-ltb, le-ltb, and_parts, and_left, and_from, and_right, or_left, or_right, or_from, cond-true, cond-false}
use Rattle.merge_core.specs.declared.cell.Cell.{Cell}
use Rattle.merge_core.specs.declared.cell.Cell.TheVariants.{Out, Ann, Fin}
use Rattle.merge_core.specs.Changes.{keeps_counter}
use Rattle.admission_model.specs.Durable.{Named, Place, of_other, named, counter_named, slots_from, places_from, slot_count, pick, kept_cells, risen_cells, is_before, is_same_place, AreRising, put_cell, put_cells}
use Rattle.admission_model.specs.declared.durable.DurableCell.{DurableCell}

-- a place stands before another
abbrev pub is_earlier : Place → Place → Bool
is_earlier p q = ltb p.r q.r || (eqb p.r q.r && ltb p.slot q.slot)

abbrev pub ArePlaced : List Place → Type 0
ArePlaced [] = Unit {0}
ArePlaced (p ∷ ps) = AllByRecursion (λ q. is_earlier p q ≡ true) ps × ArePlaced ps

-- who stands before another stands neither behind it nor at its place
not_behind : (c d : DurableCell) → is_before d c ≡ true → (is_before c d ≡ false) × (is_same_place c d ≡ false)
not_behind c d e = at (cases_Bool (ltb d.r c.r))
  where
    at : (ltb d.r c.r ≡ true) ⊎ (ltb d.r c.r ≡ false) → (is_before c d ≡ false) × (is_same_place c d ≡ false)
    at (inl less) =
        let lower = ltb-true d.r c.r less in
        let apart : eqb c.r d.r ≡ false = ne_eqb c.r d.r (λ same. absurd (omega arith)) in (
          or_from (ltb c.r d.r) (eqb c.r d.r && ltb c.slot d.slot) (le-ltb c.r d.r (omega arith)) (and_left (eqb c.r d.r) (ltb c.slot d.slot) apart),
          and_left (eqb c.r d.r) (eqb c.slot d.slot) apart,
        )
    at (inr not_less) =
        let here : (eqb d.r c.r && ltb d.slot c.slot) ≡ true = sym (ap (λ b. b || (eqb d.r c.r && ltb d.slot c.slot)) not_less) ∙ e in
        let parts = and_parts (eqb d.r c.r) (ltb d.slot c.slot) here in
        let same = eqb-true d.r c.r parts.0 in
        let lower = ltb-true d.slot c.slot parts.1 in (
          or_from (ltb c.r d.r) (eqb c.r d.r && ltb c.slot d.slot) (le-ltb c.r d.r (omega arith)) (and_right (eqb c.r d.r) (ltb c.slot d.slot) (le-ltb c.slot d.slot (omega arith))),
          and_right (eqb c.r d.r) (eqb c.slot d.slot) (ne_eqb c.slot d.slot (λ equal. absurd (omega arith))),
        )

-- a cell before all others is put first
put_first : (c : DurableCell) (ds : List DurableCell) → AllByRecursion (λ d. is_before c d ≡ true) ds → put_cell c ds ≡ c ∷ ds
put_first c [] all = refl
put_first c (d ∷ ds) all = cond-true (is_before c d) (c ∷ (d ∷ ds)) (cond (is_same_place c d) (c ∷ ds) (d ∷ put_cell c ds)) all.0

-- a cell at the first one's place takes it
put_there : (c d : DurableCell) (ds : List DurableCell) → c.r ≡ d.r → c.slot ≡ d.slot → put_cell c (d ∷ ds) ≡ c ∷ ds
put_there c d ds same_r same_slot =
    cond-false (is_before c d) (c ∷ (d ∷ ds)) (cond (is_same_place c d) (c ∷ ds) (d ∷ put_cell c ds))
    (or_from (ltb c.r d.r) (eqb c.r d.r && ltb c.slot d.slot) (le-ltb c.r d.r (omega arith)) (and_right (eqb c.r d.r) (ltb c.slot d.slot) (le-ltb c.slot d.slot (omega arith))))
    ∙ cond-true (is_same_place c d) (c ∷ ds) (d ∷ put_cell c ds) (and_from (eqb c.r d.r) (eqb c.slot d.slot) (eq-eqb c.r d.r same_r) (eq-eqb c.slot d.slot same_slot))

-- cells behind the first one leave it first
put_behind : (cs : List DurableCell) (d : DurableCell) (ds : List DurableCell) → AllByRecursion (λ c. is_before d c ≡ true) cs → put_cells cs (d ∷ ds) ≡ d ∷ put_cells cs ds
put_behind [] d ds all = refl
put_behind (c ∷ cs) d ds all =
    let apart = not_behind c d all.0 in
    ap (put_cell c) (put_behind cs d ds all.1)
    ∙ (cond-false (is_before c d) (c ∷ (d ∷ put_cells cs ds)) (cond (is_same_place c d) (c ∷ put_cells cs ds) (d ∷ put_cell c (put_cells cs ds))) apart.0
    ∙ cond-false (is_same_place c d) (c ∷ put_cells cs ds) (d ∷ put_cell c (put_cells cs ds)) apart.1)

cell_at : (ℕ → ℕ → ℕ) → Place → DurableCell
cell_at value p = record { r = p.r; slot = p.slot; value = value p.r p.slot }

pick_yes : (test : ℕ → ℕ → Bool) (value : ℕ → ℕ → ℕ) (p : Place) (ps : List Place) → test p.r p.slot ≡ true → pick test value (p ∷ ps) ≡ cell_at value p ∷ pick test value ps
unfolding cell_at
pick_yes test value p ps e = cond-true (test p.r p.slot) (cell_at value p ∷ pick test value ps) (pick test value ps) e

pick_no : (test : ℕ → ℕ → Bool) (value : ℕ → ℕ → ℕ) (p : Place) (ps : List Place) → test p.r p.slot ≡ false → pick test value (p ∷ ps) ≡ pick test value ps
unfolding cell_at
pick_no test value p ps e = cond-false (test p.r p.slot) (cell_at value p ∷ pick test value ps) (pick test value ps) e

-- what is picked stands behind whatever stands before all places
pick_behind : (test : ℕ → ℕ → Bool) (value : ℕ → ℕ → ℕ) (c : DurableCell) (ps : List Place) → AllByRecursion (λ q. is_earlier (record { r = c.r; slot = c.slot }) q ≡ true) ps → AllByRecursion (λ d. is_before c d ≡ true) (pick test value ps)
unfolding cell_at
pick_behind test value c [] all = tt
pick_behind test value c (p ∷ ps) all = at (cases_Bool (test p.r p.slot)) (pick_behind test value c ps all.1)
  where
    at : (test p.r p.slot ≡ true) ⊎ (test p.r p.slot ≡ false) → AllByRecursion (λ d. is_before c d ≡ true) (pick test value ps) → AllByRecursion (λ d. is_before c d ≡ true) (pick test value (p ∷ ps))
    at (inl e) later = subst (AllByRecursion (λ d. is_before c d ≡ true)) (sym (pick_yes test value p ps e)) (all.0, later)
    at (inr e) later = subst (AllByRecursion (λ d. is_before c d ≡ true)) (sym (pick_no test value p ps e)) later

pub pick_rises : (test : ℕ → ℕ → Bool) (value : ℕ → ℕ → ℕ) (ps : List Place) → ArePlaced ps → AreRising (pick test value ps)
unfolding cell_at
pick_rises test value [] placed = tt
pick_rises test value (p ∷ ps) placed = at (cases_Bool (test p.r p.slot)) (pick_rises test value ps placed.1)
  where
    at : (test p.r p.slot ≡ true) ⊎ (test p.r p.slot ≡ false) → AreRising (pick test value ps) → AreRising (pick test value (p ∷ ps))
    at (inl e) later = subst AreRising (sym (pick_yes test value p ps e)) (pick_behind test value (cell_at value p) ps placed.0, later)
    at (inr e) later = subst AreRising (sym (pick_no test value p ps e)) later

-- The cells of the new values are the old cells with those put that rise.
pub cells_put : (start old new : ℕ → ℕ → ℕ) → ((r slot : ℕ) → start r slot ≤ old r slot) → ((r slot : ℕ) → old r slot ≤ new r slot) → (ps : List Place) → ArePlaced ps → put_cells (risen_cells old new ps) (kept_cells start old ps) ≡ kept_cells start new ps
unfolding cell_at
cells_put start old new low rises [] placed = refl
cells_put start old new low rises (p ∷ ps) placed =
    at (cases_Bool (ltb (old p.r p.slot) (new p.r p.slot))) (cases_eq (old p.r p.slot) (start p.r p.slot)) (cells_put start old new low rises ps placed.1)
  where
    grows : ℕ → ℕ → Bool
    grows r slot = ltb (old r slot) (new r slot)

    was : ℕ → ℕ → Bool
    was r slot = not (eqb (old r slot) (start r slot))

    is : ℕ → ℕ → Bool
    is r slot = not (eqb (new r slot) (start r slot))

    differs : (m n : ℕ) → (m ≡ n → ⊥) → not (eqb m n) ≡ true
    differs m n apart = ap not (ne_eqb m n apart)

    agrees : (m n : ℕ) → m ≡ n → not (eqb m n) ≡ false
    agrees m n same = ap not (eq-eqb m n same)

    at : (ltb (old p.r p.slot) (new p.r p.slot) ≡ true) ⊎ (ltb (old p.r p.slot) (new p.r p.slot) ≡ false) → (old p.r p.slot ≡ start p.r p.slot) ⊎ (old p.r p.slot ≡ start p.r p.slot → ⊥) → put_cells (risen_cells old new ps) (kept_cells start old ps) ≡ kept_cells start new ps → put_cells (risen_cells old new (p ∷ ps)) (kept_cells start old (p ∷ ps)) ≡ kept_cells start new (p ∷ ps)
    at (inl up) (inl fresh) later =
        let above = ltb-true (old p.r p.slot) (new p.r p.slot) up in
        ap (λ cs. put_cells cs (kept_cells start old (p ∷ ps))) (pick_yes (λ r slot. ltb (old r slot) (new r slot)) new p ps up)
        ∙ (ap (λ ds. put_cell (cell_at new p) (put_cells (risen_cells old new ps) ds)) (pick_no (λ r slot. not (eqb (old r slot) (start r slot))) old p ps (agrees (old p.r p.slot) (start p.r p.slot) fresh))
        ∙ (ap (put_cell (cell_at new p)) later
        ∙ (put_first (cell_at new p) (kept_cells start new ps) (pick_behind (λ r slot. not (eqb (new r slot) (start r slot))) new (cell_at new p) ps placed.0)
        ∙ sym (pick_yes (λ r slot. not (eqb (new r slot) (start r slot))) new p ps (differs (new p.r p.slot) (start p.r p.slot) (λ e. absurd (omega (arith, low p.r p.slot))))))))
    at (inl up) (inr moved) later =
        let above = ltb-true (old p.r p.slot) (new p.r p.slot) up in
        ap (λ cs. put_cells cs (kept_cells start old (p ∷ ps))) (pick_yes (λ r slot. ltb (old r slot) (new r slot)) new p ps up)
        ∙ (ap (λ ds. put_cell (cell_at new p) (put_cells (risen_cells old new ps) ds)) (pick_yes (λ r slot. not (eqb (old r slot) (start r slot))) old p ps (differs (old p.r p.slot) (start p.r p.slot) moved))
        ∙ (ap (put_cell (cell_at new p)) (put_behind (risen_cells old new ps) (cell_at old p) (kept_cells start old ps) (pick_behind (λ r slot. ltb (old r slot) (new r slot)) new (cell_at old p) ps placed.0))
        ∙ (put_there (cell_at new p) (cell_at old p) (put_cells (risen_cells old new ps) (kept_cells start old ps)) refl refl
        ∙ (ap (λ ds. cell_at new p ∷ ds) later
        ∙ sym (pick_yes (λ r slot. not (eqb (new r slot) (start r slot))) new p ps (differs (new p.r p.slot) (start p.r p.slot) (λ e. absurd (omega (arith, low p.r p.slot)))))))))
    at (inr level) (inl fresh) later =
        let same : new p.r p.slot ≡ old p.r p.slot = omega (arith, ltb-false (old p.r p.slot) (new p.r p.slot) level, rises p.r p.slot) in
        ap (λ cs. put_cells cs (kept_cells start old (p ∷ ps))) (pick_no (λ r slot. ltb (old r slot) (new r slot)) new p ps level)
        ∙ (ap (put_cells (risen_cells old new ps)) (pick_no (λ r slot. not (eqb (old r slot) (start r slot))) old p ps (agrees (old p.r p.slot) (start p.r p.slot) fresh))
        ∙ (later
        ∙ sym (pick_no (λ r slot. not (eqb (new r slot) (start r slot))) new p ps (agrees (new p.r p.slot) (start p.r p.slot) (same ∙ fresh)))))
    at (inr level) (inr moved) later =
        let same : new p.r p.slot ≡ old p.r p.slot = omega (arith, ltb-false (old p.r p.slot) (new p.r p.slot) level, rises p.r p.slot) in
        ap (λ cs. put_cells cs (kept_cells start old (p ∷ ps))) (pick_no (λ r slot. ltb (old r slot) (new r slot)) new p ps level)
        ∙ (ap (put_cells (risen_cells old new ps)) (pick_yes (λ r slot. not (eqb (old r slot) (start r slot))) old p ps (differs (old p.r p.slot) (start p.r p.slot) moved))
        ∙ (put_behind (risen_cells old new ps) (cell_at old p) (kept_cells start old ps) (pick_behind (λ r slot. ltb (old r slot) (new r slot)) new (cell_at old p) ps placed.0)
        ∙ (ap (λ ds. cell_at old p ∷ ds) later
        ∙ (ap (λ (x : ℕ). record { r = p.r; slot = p.slot; value = x } ∷ kept_cells start new ps) (sym same)
        ∙ sym (pick_yes (λ r slot. not (eqb (new r slot) (start r slot))) new p ps (differs (new p.r p.slot) (start p.r p.slot) (λ e. moved (sym same ∙ e))))))))

-- where nothing rises no cell is put
pub none_risen : (old new : ℕ → ℕ → ℕ) → ((r slot : ℕ) → new r slot ≤ old r slot) → (ps : List Place) → risen_cells old new ps ≡ []
none_risen old new low [] = refl
none_risen old new low (p ∷ ps) =
    pick_no (λ r slot. ltb (old r slot) (new r slot)) new p ps (le-ltb (old p.r p.slot) (new p.r p.slot) (low p.r p.slot)) ∙ none_risen old new low ps

-- the slots of a record, and the records, rise
slots_there : (r slot n : ℕ) → AllByRecursion (λ q. (q.r ≡ r) × (slot ≤ q.slot)) (slots_from r slot n)
slots_there r slot zero = tt
slots_there r slot (suc n) = ((refl, omega arith), further (slots_from r (slot + 1) n) (slots_there r (slot + 1) n))
  where
    further : (ps : List Place) → AllByRecursion (λ q. (q.r ≡ r) × (slot + 1 ≤ q.slot)) ps → AllByRecursion (λ q. (q.r ≡ r) × (slot ≤ q.slot)) ps
    further [] all = tt
    further (p ∷ ps) all = ((all.0.0, omega (arith, all.0.1)), further ps all.1)

slots_placed : (r slot n : ℕ) → ArePlaced (slots_from r slot n)
slots_placed r slot zero = tt
slots_placed r slot (suc n) = (behind (slots_from r (slot + 1) n) (slots_there r (slot + 1) n), slots_placed r (slot + 1) n)
  where
    behind : (ps : List Place) → AllByRecursion (λ q. (q.r ≡ r) × (slot + 1 ≤ q.slot)) ps → AllByRecursion (λ q. is_earlier (record { r = r; slot = slot }) q ≡ true) ps
    behind [] all = tt
    behind (p ∷ ps) all = (
      or_right (ltb r p.r) (eqb r p.r && ltb slot p.slot) (and_from (eqb r p.r) (ltb slot p.slot) (eq-eqb r p.r (sym all.0.0)) (lt-ltb slot p.slot (omega (arith, all.0.1)))),
      behind ps all.1,
    )

all_append : (P : Place → Type 0) (xs ys : List Place) → AllByRecursion P xs → AllByRecursion P ys → AllByRecursion P (xs ++ ys)
all_append P [] ys a b = b
all_append P (x ∷ xs) ys a b = (a.0, all_append P xs ys a.1 b)

records_there : (r n : ℕ) → AllByRecursion (λ q. r ≤ q.r) (places_from r n)
records_there r zero = tt
records_there r (suc n) =
    all_append (λ q. r ≤ q.r) (slots_from r 0 slot_count) (places_from (r + 1) n) (here (slots_from r 0 slot_count) (slots_there r 0 slot_count)) (later (places_from (r + 1) n) (records_there (r + 1) n))
  where
    here : (ps : List Place) → AllByRecursion (λ q. (q.r ≡ r) × (0 ≤ q.slot)) ps → AllByRecursion (λ q. r ≤ q.r) ps
    here [] all = tt
    here (p ∷ ps) all = (omega (arith, all.0.0), here ps all.1)

    later : (ps : List Place) → AllByRecursion (λ q. r + 1 ≤ q.r) ps → AllByRecursion (λ q. r ≤ q.r) ps
    later [] all = tt
    later (p ∷ ps) all = (omega (arith, all.0), later ps all.1)

placed_append : (r : ℕ) (xs ys : List Place) → ArePlaced xs → AllByRecursion (λ q. q.r ≡ r) xs → ArePlaced ys → AllByRecursion (λ q. r + 1 ≤ q.r) ys → ArePlaced (xs ++ ys)
placed_append r [] ys placed here rest later = rest
placed_append r (x ∷ xs) ys placed here rest later =
    (all_append (λ q. is_earlier x q ≡ true) xs ys placed.0 (behind ys later), placed_append r xs ys placed.1 here.1 rest later)
  where
    behind : (ps : List Place) → AllByRecursion (λ q. r + 1 ≤ q.r) ps → AllByRecursion (λ q. is_earlier x q ≡ true) ps
    behind [] all = tt
    behind (p ∷ ps) all =
        (or_left (ltb x.r p.r) (eqb x.r p.r && ltb x.slot p.slot) (lt-ltb x.r p.r (omega (arith, all.0, here.0))), behind ps all.1)

pub places_placed : (r n : ℕ) → ArePlaced (places_from r n)
places_placed r zero = tt
places_placed r (suc n) =
    placed_append r (slots_from r 0 slot_count) (places_from (r + 1) n) (slots_placed r 0 slot_count) (here (slots_from r 0 slot_count) (slots_there r 0 slot_count)) (places_placed (r + 1) n) (records_there (r + 1) n)
  where
    here : (ps : List Place) → AllByRecursion (λ q. (q.r ≡ r) × (0 ≤ q.slot)) ps → AllByRecursion (λ q. q.r ≡ r) ps
    here [] all = tt
    here (p ∷ ps) all = (all.0.0, here ps all.1)

-- a named counter is one that a restart keeps
abbrev pub IsKept : ℕ → Option Named → Type 0
IsKept i None = Unit {0}
IsKept i (Some it) = keeps_counter i it.s it.cell ≡ true

other_kept : (sites i j : ℕ) (cell : Cell) → keeps_counter i j cell ≡ true → IsKept i (of_other sites i j cell)
other_kept sites i j cell kept =
    cond_both (ltb j sites && not (eqb j i)) (Some (record { s = j; cell = cell })) None (IsKept i) (λ e. kept) (λ e. tt)

pub named_kept : (sites i slot : ℕ) → IsKept i (named sites i slot)
named_kept sites i slot =
    cond_both (ltb slot 100) _ _ (IsKept i) (λ e. cond_both (ltb slot sites) _ _ (IsKept i) (λ d. or_left (eqb i i) (eqb slot i) (eq-eqb i i refl)) (λ d. tt)) (λ e.
    cond_both (ltb slot 200) _ _ (IsKept i) (λ d. other_kept sites i (slot - 100) (Out i) (or_right (eqb (slot - 100) i) (eqb i i) (eq-eqb i i refl))) (λ d.
    cond_both (eqb slot 200) _ _ (IsKept i) (λ c. eq-eqb i i refl) (λ c.
    cond_both (eqb slot 201) _ _ (IsKept i) (λ b. refl) (λ b.
    cond_both (eqb slot 202) _ _ (IsKept i) (λ a. refl) (λ a.
    cond_both (ltb slot 300) _ _ (IsKept i) (λ f. tt) (λ f.
    cond_both (ltb slot 400) _ _ (IsKept i) (λ g. other_kept sites i (slot - 300) Ann refl) (λ g. other_kept sites i (slot - 400) Fin refl)))))))

-- what holds of each kept counter holds at each slot
pub named_below : (i r : ℕ) (f g : ℕ → ℕ → Cell → ℕ) (o : Option Named) → IsKept i o → ((s : ℕ) (cell : Cell) → keeps_counter i s cell ≡ true → f r s cell ≤ g r s cell) → counter_named f r o ≤ counter_named g r o
named_below i r f g None kept low = omega arith
named_below i r f g (Some it) kept low = low it.s it.cell kept
