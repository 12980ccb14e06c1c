-- The durable part of the account that begins from a durable part is that part.
use Rattle.std.proofs.Common.{◌≡◌, ◌≢◌, ℕ, ◌+◌, ◌-◌, ◌<◌, ◌≤◌, ◌⊎◌, inl, inr, true, false, not, ◌&&◌, ◌||◌, eqb, ltb, List, [], ◌∷◌, length, Option, Some, None, is_some, unwrap_or, refl, sym, ap, subst, ◌∙◌, arith}
use Rattle.std.specs.List.{AllByRecursion}
use Rattle.std.proofs.lemmas.Bool.{cases_Bool, cases_eq, cases_lt, cond-true, cond-false, cond_both, eqb-true, eq-eqb, ne_eqb, ltb-true, ltb-false, lt-ltb, and_parts, and_from, or_left, or_right}
use Rattle.std.proofs.lemmas.List.Elements.{recursion_from_All}
use Rattle.merge_core.specs.declared.cell.Cell.{Cell}
use Rattle.merge_core.specs.declared.cell.Cell.TheVariants.{Out, Ann, Fin}
use Rattle.merge_core.specs.Layout.{LayoutState, shape_of}
use Rattle.merge_core.specs.Rows.{start_counter}
use Rattle.admission_model.specs.declared.durable.DurableCell.{DurableCell}
use Rattle.admission_model.specs.Account.{Account, Origin}
use Rattle.admission_model.specs.Knowledge.{known}
use Rattle.admission_model.specs.Durable.{Named, of_other, named, counter_named, places, slot_count, slots_of, start_slots, durable_cells, is_before, AreRising}
use Rattle.admission_model.specs.Restoring.{stored_at, slot_of, stored_in, counters_from, origin_from, AreCells, AreSessions}
use Rattle.admission_model.proofs.OrderLemmas.{sessions_begun}
use Rattle.admission_model.proofs.OriginLemmas.{begins_from}
use Rattle.admission_model.specs.Reached.{IsReached}
use Rattle.admission_model.specs.Sound.{IsOrigin}
use Rattle.merge_core.specs.Changes.{keeps_counter}
use Rattle.admission_model.proofs.HeardLemmas.{kept_yes}
use Rattle.admission_model.proofs.CellLemmas.{IsKept, named_kept}
use Rattle.admission_model.proofs.StoredLemmas.{places_have, stored_or_start}
use Rattle.admission_model.proofs.RestoringLemmas.{stored_cells}
use Rattle.admission_model.proofs.SlotLemmas.{slot_if-yes, slot_sent, slot_column, slot_taken, slot_announced, slot_announced_other, slot_finished, slot_finished_other}
use Rattle.admission_model.proofs.ChangeLemmas.{durable_rises}
use Rattle.admission_core.specs.Kept.{DurableState, durable_of}
use Rattle.desk_log.specs.Log.{begun}

-- the value of a place in a list of cells: its start, where there is no cell
abbrev value_at : (ℕ → ℕ → ℕ) → List DurableCell → ℕ → ℕ → ℕ
value_at start cells r slot = unwrap_or (stored_at cells r slot) (start r slot)

-- a cell stands before all of these
abbrev BeforeAll : DurableCell → List DurableCell → Type 0
BeforeAll c cs = AllByRecursion (λ d. is_before c d ≡ true) cs

-- what stands before another is at another place, and either way round
before_cases : (c d : DurableCell) → is_before c d ≡ true → (c.r < d.r) ⊎ ((c.r ≡ d.r) × (c.slot < d.slot))
before_cases c d e = at (cases_Bool (ltb c.r d.r))
  where
    at : (ltb c.r d.r ≡ true) ⊎ (ltb c.r d.r ≡ false) → (c.r < d.r) ⊎ ((c.r ≡ d.r) × (c.slot < d.slot))
    at (inl lower) = inl (ltb-true c.r d.r lower)
    at (inr other) =
        let parts = and_parts (eqb c.r d.r) (ltb c.slot d.slot) (sym (ap (λ b. b || (eqb c.r d.r && ltb c.slot d.slot)) other) ∙ e) in
        inr (eqb-true c.r d.r parts.0, ltb-true c.slot d.slot parts.1)

before_from : (c d : DurableCell) → (c.r < d.r) ⊎ ((c.r ≡ d.r) × (c.slot < d.slot)) → is_before c d ≡ true
before_from c d (inl lower) = or_left (ltb c.r d.r) _ (lt-ltb c.r d.r lower)
before_from c d (inr (same, lower)) = or_right (ltb c.r d.r) _ (and_from (eqb c.r d.r) (ltb c.slot d.slot) (eq-eqb c.r d.r same) (lt-ltb c.slot d.slot lower))

before_then : (c d e : DurableCell) → is_before c d ≡ true → is_before d e ≡ true → is_before c e ≡ true
before_then c d e p q = before_from c e (at (before_cases c d p) (before_cases d e q))
  where
    at : (c.r < d.r) ⊎ ((c.r ≡ d.r) × (c.slot < d.slot)) → (d.r < e.r) ⊎ ((d.r ≡ e.r) × (d.slot < e.slot)) → (c.r < e.r) ⊎ ((c.r ≡ e.r) × (c.slot < e.slot))
    at (inl a) (inl b) = inl (omega arith)
    at (inl a) (inr (b, k)) = inl (omega arith)
    at (inr (a, k)) (inl b) = inl (omega arith)
    at (inr (a, k)) (inr (b, m)) = inr (a ∙ b, omega arith)

before_all : (c d : DurableCell) (ds : List DurableCell) → is_before c d ≡ true → BeforeAll d ds → BeforeAll c ds
before_all c d [] p all = tt
before_all c d (e ∷ es) p all = (before_then c d e p all.0, before_all c d es p all.1)

-- two cells are in order, or at one place
order_cases : (c d : DurableCell) → (is_before c d ≡ true) ⊎ ((is_before d c ≡ true) ⊎ ((c.r ≡ d.r) × (c.slot ≡ d.slot)))
order_cases c d = at (cases_lt c.r d.r) (cases_lt d.r c.r) (cases_lt c.slot d.slot) (cases_lt d.slot c.slot)
  where
    at : (c.r < d.r) ⊎ (d.r ≤ c.r) → (d.r < c.r) ⊎ (c.r ≤ d.r) → (c.slot < d.slot) ⊎ (d.slot ≤ c.slot) → (d.slot < c.slot) ⊎ (c.slot ≤ d.slot)
        → (is_before c d ≡ true) ⊎ ((is_before d c ≡ true) ⊎ ((c.r ≡ d.r) × (c.slot ≡ d.slot)))
    at (inl a) o p q = inl (before_from c d (inl a))
    at (inr a) (inl o) p q = inr (inl (before_from d c (inl o)))
    at (inr a) (inr o) (inl p) q = inl (before_from c d (inr (omega arith, p)))
    at (inr a) (inr o) (inr p) (inl q) = inr (inl (before_from d c (inr (omega arith, q))))
    at (inr a) (inr o) (inr p) (inr q) = inr (inr (omega arith, omega arith))

-- the place of a cell that stands before all has no cell
apart_places : (c d : DurableCell) → is_before c d ≡ true → (eqb d.r c.r && eqb d.slot c.slot) ≡ false
apart_places c d p = at (cases_Bool (eqb d.r c.r && eqb d.slot c.slot))
  where
    at : ((eqb d.r c.r && eqb d.slot c.slot) ≡ true) ⊎ ((eqb d.r c.r && eqb d.slot c.slot) ≡ false) → (eqb d.r c.r && eqb d.slot c.slot) ≡ false
    at (inr other) = other
    at (inl same) =
        let parts = and_parts (eqb d.r c.r) (eqb d.slot c.slot) same in
        let r : d.r ≡ c.r = eqb-true d.r c.r parts.0 in
        let slot : d.slot ≡ c.slot = eqb-true d.slot c.slot parts.1 in
        absurd (clash r slot (before_cases c d p))
      where
        clash : d.r ≡ c.r → d.slot ≡ c.slot → (c.r < d.r) ⊎ ((c.r ≡ d.r) × (c.slot < d.slot)) → ⊥
        clash r slot (inl less) = omega arith
        clash r slot (inr (e, less)) = omega arith

none_before : (c : DurableCell) (ds : List DurableCell) → BeforeAll c ds → stored_at ds c.r c.slot ≡ None
none_before c [] all = refl
none_before c (d ∷ ds) all = cond-false (eqb d.r c.r && eqb d.slot c.slot) (Some d.value) (stored_at ds c.r c.slot) (apart_places c d all.0) ∙ none_before c ds all.1

own_place : (c : DurableCell) → (eqb c.r c.r && eqb c.slot c.slot) ≡ true
own_place c = and_from (eqb c.r c.r) (eqb c.slot c.slot) (eq-eqb c.r c.r refl) (eq-eqb c.slot c.slot refl)

-- two lists of cells that rise, have left their starts and tell the same values are the same
module _ (start : ℕ → ℕ → ℕ) where
  abbrev Moved : List DurableCell → Type 0
  Moved cs = AllByRecursion (λ c. c.value ≢ start c.r c.slot) cs

  here : (c : DurableCell) (cs : List DurableCell) → value_at start (c ∷ cs) c.r c.slot ≡ c.value
  here c cs = ap (λ o. unwrap_or o (start c.r c.slot)) (cond-true (eqb c.r c.r && eqb c.slot c.slot) (Some c.value) (stored_at cs c.r c.slot) (own_place c))

  before : (c : DurableCell) (cs : List DurableCell) → BeforeAll c cs → value_at start cs c.r c.slot ≡ start c.r c.slot
  before c cs all = ap (λ o. unwrap_or o (start c.r c.slot)) (none_before c cs all)

  -- without the first cell of each, where those are at one place
  rest_same : (c d : DurableCell) (cs ds : List DurableCell) → c.r ≡ d.r → c.slot ≡ d.slot → BeforeAll c cs → BeforeAll d ds → ((r slot : ℕ) → value_at start (c ∷ cs) r slot ≡ value_at start (d ∷ ds) r slot) → (r slot : ℕ) → value_at start cs r slot ≡ value_at start ds r slot
  rest_same c d cs ds same_r same_slot all more same r slot = at (cases_Bool (eqb c.r r && eqb c.slot slot))
    where
      test : (eqb c.r r && eqb c.slot slot) ≡ (eqb d.r r && eqb d.slot slot)
      test = ap (λ (x : ℕ). eqb x r && eqb c.slot slot) same_r ∙ ap (λ (x : ℕ). eqb d.r r && eqb x slot) same_slot

      at : ((eqb c.r r && eqb c.slot slot) ≡ true) ⊎ ((eqb c.r r && eqb c.slot slot) ≡ false) → value_at start cs r slot ≡ value_at start ds r slot
      at (inl e) =
          let parts = and_parts (eqb c.r r) (eqb c.slot slot) e in
          let is_r : c.r ≡ r = eqb-true c.r r parts.0 in
          let is_slot : c.slot ≡ slot = eqb-true c.slot slot parts.1 in
          let P : ℕ → ℕ → Type 0 = λ x y. value_at start cs x y ≡ value_at start ds x y in
          let first : P c.r c.slot =
          before c cs all ∙ sym (ap (λ (x : ℕ). value_at start ds x c.slot) same_r ∙ (ap (λ (y : ℕ). value_at start ds d.r y) same_slot ∙ (before d ds more ∙ (ap (λ (x : ℕ). start x d.slot) (sym same_r) ∙ ap (λ (y : ℕ). start c.r y) (sym same_slot))))) in
          subst (λ (x : ℕ). P x slot) is_r (subst (λ (y : ℕ). P c.r y) is_slot first)
      at (inr e) =
          sym (ap (λ o. unwrap_or o (start r slot)) (cond-false (eqb c.r r && eqb c.slot slot) (Some c.value) (stored_at cs r slot) e))
          ∙ (same r slot
          ∙ ap (λ o. unwrap_or o (start r slot)) (cond-false (eqb d.r r && eqb d.slot slot) (Some d.value) (stored_at ds r slot) (sym test ∙ e)))

  pub same_cells : (cs ds : List DurableCell) → AreRising cs → AreRising ds → Moved cs → Moved ds → ((r slot : ℕ) → value_at start cs r slot ≡ value_at start ds r slot) → cs ≡ ds
  same_cells [] [] rises more moved left same = refl
  same_cells [] (d ∷ ds) rises more moved left same = absurd (left.0 (sym (here d ds) ∙ sym (same d.r d.slot)))
  same_cells (c ∷ cs) [] rises more moved left same = absurd (moved.0 (sym (here c cs) ∙ same c.r c.slot))
  same_cells (c ∷ cs) (d ∷ ds) rises more moved left same = at (order_cases c d) (same_cells cs ds rises.1 more.1 moved.1 left.1)
    where
      later : c.r ≡ d.r → c.slot ≡ d.slot → cs ≡ ds → c ∷ cs ≡ d ∷ ds
      later r slot rest =
          let value : c.value ≡ d.value =
          sym (here c cs) ∙ (same c.r c.slot ∙ (ap (λ (x : ℕ). value_at start (d ∷ ds) x c.slot) r ∙ (ap (λ (y : ℕ). value_at start (d ∷ ds) d.r y) slot ∙ here d ds))) in
          λ i. record { r = r i; slot = slot i; value = value i } ∷ rest i

      at : (is_before c d ≡ true) ⊎ ((is_before d c ≡ true) ⊎ ((c.r ≡ d.r) × (c.slot ≡ d.slot))) → (((r slot : ℕ) → value_at start cs r slot ≡ value_at start ds r slot) → cs ≡ ds) → c ∷ cs ≡ d ∷ ds
      at (inl first) rest = absurd (moved.0 (sym (here c cs) ∙ (same c.r c.slot ∙ before c (d ∷ ds) (first, before_all c d ds first more.0))))
      at (inr (inl second)) rest = absurd (left.0 (sym (here d ds) ∙ (sym (same d.r d.slot) ∙ before d (c ∷ cs) (second, before_all d c cs second rises.0))))
      at (inr (inr (r, slot))) rest = later r slot (rest (rest_same c d cs ds r slot rises.0 more.0 same))

-- cells of which none is at a place
none_at : (Q : ℕ → ℕ → Type 0) (r slot : ℕ) → (Q r slot → ⊥) → (cs : List DurableCell) → AllByRecursion (λ c. Q c.r c.slot) cs → stored_at cs r slot ≡ None
none_at Q r slot not_there [] all = refl
none_at Q r slot not_there (c ∷ cs) all = at (cases_Bool (eqb c.r r && eqb c.slot slot)) (none_at Q r slot not_there cs all.1)
  where
    at : ((eqb c.r r && eqb c.slot slot) ≡ true) ⊎ ((eqb c.r r && eqb c.slot slot) ≡ false) → stored_at cs r slot ≡ None → stored_at (c ∷ cs) r slot ≡ None
    at (inl e) rest =
        let parts = and_parts (eqb c.r r) (eqb c.slot slot) e in
        absurd (not_there (subst (λ (x : ℕ). Q x slot) (eqb-true c.r r parts.0) (subst (λ (y : ℕ). Q c.r y) (eqb-true c.slot slot parts.1) all.0)))
    at (inr e) rest = cond-false (eqb c.r r && eqb c.slot slot) (Some c.value) (stored_at cs r slot) e ∙ rest

-- a slot is that of the counter that it names, and it is low
abbrev IsItsSlot : ℕ → ℕ → ℕ → Option Named → Type 0
IsItsSlot sites i slot None = Unit {0}
IsItsSlot sites i slot (Some it) = (slot_of sites i it.s it.cell ≡ Some slot) × (slot < 416)

other_slot : (sites i j slot : ℕ) (cell : Cell) → slot < 400 + (j + 1) → sites ≤ 16 → (j < sites → j ≢ i → slot_of sites i j cell ≡ Some slot) → IsItsSlot sites i slot (of_other sites i j cell)
other_slot sites i j slot cell low few its = cond_both (ltb j sites && not (eqb j i)) (Some (record { s = j; cell = cell })) None (IsItsSlot sites i slot) there (λ e. tt)
  where
    there : (ltb j sites && not (eqb j i)) ≡ true → IsItsSlot sites i slot (Some (record { s = j; cell = cell }))
    there e =
        let parts = and_parts (ltb j sites) (not (eqb j i)) e in
        let below : j < sites = ltb-true j sites parts.0 in
        let apart : j ≢ i = λ same. let clash : not true ≡ true = ap not (sym (eq-eqb j i same)) ∙ parts.1 in cc in
        (its below apart, omega arith)

own_slot : (sites i slot : ℕ) → slot < sites → sites ≤ 16 → IsItsSlot sites i slot (Some (record { s = i; cell = Out slot }))
own_slot sites i slot below few = (slot_sent sites i slot ∙ slot_if-yes sites slot slot below, omega arith)

its_slot : (sites i slot : ℕ) → sites ≤ 16 → IsItsSlot sites i slot (named sites i slot)
its_slot sites i slot few =
    cond_both (ltb slot 100) _ _ (IsItsSlot sites i slot) (λ e. cond_both (ltb slot sites) _ _ (IsItsSlot sites i slot) (λ d. own_slot sites i slot (ltb-true slot sites d) few) (λ d. tt)) (λ e.
    let past : 100 ≤ slot = ltb-false slot 100 e in
    cond_both (ltb slot 200) _ _ (IsItsSlot sites i slot) (λ d.
    other_slot sites i (slot - 100) slot (Out i) (omega (arith, ltb-true slot 200 d)) few (λ below apart.
    slot_column sites i (slot - 100) apart ∙ (slot_if-yes sites (slot - 100) (100 + (slot - 100)) below ∙ ap Some (omega arith)))) (λ d.
    cond_both (eqb slot 200) _ _ (IsItsSlot sites i slot) (λ c. let is : slot ≡ 200 = eqb-true slot 200 c in (slot_taken sites i ∙ ap Some (sym is), omega arith)) (λ c.
    cond_both (eqb slot 201) _ _ (IsItsSlot sites i slot) (λ b. let is : slot ≡ 201 = eqb-true slot 201 b in (slot_announced sites i ∙ ap Some (sym is), omega arith)) (λ b.
    cond_both (eqb slot 202) _ _ (IsItsSlot sites i slot) (λ a. let is : slot ≡ 202 = eqb-true slot 202 a in (slot_finished sites i ∙ ap Some (sym is), omega arith)) (λ a.
    cond_both (ltb slot 300) _ _ (IsItsSlot sites i slot) (λ f. tt) (λ f.
    let far : 300 ≤ slot = ltb-false slot 300 f in
    cond_both (ltb slot 400) _ _ (IsItsSlot sites i slot) (λ g.
    other_slot sites i (slot - 300) slot Ann (omega (arith, ltb-true slot 400 g)) few (λ below apart.
    slot_announced_other sites i (slot - 300) apart ∙ (slot_if-yes sites (slot - 300) (300 + (slot - 300)) below ∙ ap Some (omega arith)))) (λ g.
    let further : 400 ≤ slot = ltb-false slot 400 g in
    other_slot sites i (slot - 400) slot Fin (omega arith) few (λ below apart.
    slot_finished_other sites i (slot - 400) apart ∙ (slot_if-yes sites (slot - 400) (400 + (slot - 400)) below ∙ ap Some (omega arith))))))))))

-- the account that begins from cells and sessions
module _ (layout : LayoutState) (i : ℕ) (d : DurableState) (there : i < layout.sites) (few : layout.sites ≤ 16) (cells : AreCells layout i d.cells) (sessions : AreSessions layout i d.cells d.sessions) where
  abbrev o : Origin
  o = origin_from layout i d.cells d.sessions

  abbrev a : Account
  a = begun layout i d

  origin : IsOrigin o
  origin = begins_from layout i d.cells d.sessions there cells sessions

  pub begun_reached : IsReached a
  begun_reached = record { from = o; may_begin = origin; steps = []; reached = refl }

  again : AreCells layout i (durable_cells a)
  again = stored_cells a begun_reached layout.sites (omega arith) few

  known_kept : (r s : ℕ) (cell : Cell) → keeps_counter i s cell ≡ true → known a r s cell ≡ counters_from layout i d.cells r s cell
  known_kept r s cell kept = at (cases_eq s i)
    where
      at : (s ≡ i) ⊎ (s ≡ i → ⊥) → known a r s cell ≡ counters_from layout i d.cells r s cell
      at (inl e) = cond-true (eqb s i) _ _ (eq-eqb s i e) ∙ ap (λ (x : ℕ). counters_from layout i d.cells r x cell) (sym e)
      at (inr ne) = cond-false (eqb s i) _ _ (ne_eqb s i ne) ∙ kept_yes o (counters_from layout i d.cells) r s cell kept

  low_slot : (slot : ℕ) → slot < 416 → slot < slot_count
  unfolding slot_count
  low_slot slot low = low

  named_value : (r slot : ℕ) (it : Named) → r < length layout.records → named layout.sites i slot ≡ Some it → value_at (start_slots a) (durable_cells a) r slot ≡ value_at (start_slots a) d.cells r slot
  named_value r slot it below e =
      let its : IsItsSlot layout.sites i slot (Some it) = subst (IsItsSlot layout.sites i slot) e (its_slot layout.sites i slot few) in
      let kept : IsKept i (Some it) = subst (IsKept i) e (named_kept layout.sites i slot) in
      stored_or_start (start_slots a) (slots_of a) r slot (places layout) (places_have 0 (length layout.records) r slot (omega arith) (omega arith) (low_slot slot its.1))
      ∙ (ap (counter_named (known a) r) e
      ∙ (known_kept r it.s it.cell kept
      ∙ (ap (λ (x : Option ℕ). unwrap_or (stored_in d.cells r x) (start_counter (shape_of layout) r it.s it.cell)) its.0
      ∙ ap (unwrap_or (stored_at d.cells r slot)) (sym (ap (counter_named (start_counter (shape_of layout)) r) e)))))

  -- no cell is at a place that names nothing, or of a record that is not there
  IsPlaceOf : ℕ → ℕ → Type 0
  IsPlaceOf r slot = (r < length layout.records) × (is_some (named layout.sites i slot) ≡ true)

  are_placed : (cs : List DurableCell) → AreCells layout i cs → AllByRecursion (λ c. IsPlaceOf c.r c.slot) cs
  unfolding IsPlaceOf
  are_placed cs are = both cs (recursion_from_All (λ c. c.r < length layout.records) cs are.records) (recursion_from_All (λ c. is_some (named layout.sites i c.slot) ≡ true) cs are.slots)
    where
      both : (xs : List DurableCell) → AllByRecursion (λ c. c.r < length layout.records) xs → AllByRecursion (λ c. is_some (named layout.sites i c.slot) ≡ true) xs → AllByRecursion (λ c. (c.r < length layout.records) × (is_some (named layout.sites i c.slot) ≡ true)) xs
      both [] p q = tt
      both (x ∷ xs) p q = ((p.0, q.0), both xs p.1 q.1)

  not_placed : (r slot : ℕ) → (IsPlaceOf r slot → ⊥) → value_at (start_slots a) (durable_cells a) r slot ≡ value_at (start_slots a) d.cells r slot
  not_placed r slot not_there =
      ap (λ x. unwrap_or x (start_slots a r slot)) (none_at IsPlaceOf r slot not_there (durable_cells a) (are_placed (durable_cells a) again) ∙ sym (none_at IsPlaceOf r slot not_there d.cells (are_placed d.cells cells)))

  values : (r slot : ℕ) → value_at (start_slots a) (durable_cells a) r slot ≡ value_at (start_slots a) d.cells r slot
  unfolding IsPlaceOf
  values r slot = at (cases_lt r (length layout.records)) (named layout.sites i slot) refl
    where
      at : (r < length layout.records) ⊎ (length layout.records ≤ r) → (x : Option Named) → named layout.sites i slot ≡ x → value_at (start_slots a) (durable_cells a) r slot ≡ value_at (start_slots a) d.cells r slot
      at (inl below) (Some it) e = named_value r slot it below e
      at (inl below) None e = not_placed r slot (λ p. let clash : false ≡ true = sym (ap is_some e) ∙ p.1 in cc)
      at (inr past) x e = not_placed r slot (λ p. omega (arith, p.0))

  same : durable_cells a ≡ d.cells
  same =
      same_cells (start_slots a) (durable_cells a) d.cells (durable_rises a) cells.rising
      (recursion_from_All (λ c. c.value ≢ start_slots a c.r c.slot) (durable_cells a) again.moved) (recursion_from_All (λ c. c.value ≢ start_slots a c.r c.slot) d.cells cells.moved) values

  -- the durable part of the account is the one that it began from
  pub durable_begun : durable_of a ≡ d
  durable_begun = λ k. record { cells = same k; sessions = sessions_begun o origin k }
