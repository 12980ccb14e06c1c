-- Where an account begins from what a store kept.
use Rattle.std.proofs.Common.{◌≡◌, ◌≢◌, ℕ, ◌+◌, ◌<◌, ◌≤◌, ◌⊎◌, inl, inr, true, false, not, eqb, length, Option, Some, None, is_some, unwrap_or, refl, sym, ap, subst, ◌∙◌, arith}
use Rattle.std.specs.List.{AllByRecursion}
use Rattle.std.proofs.lemmas.Bool.{cases_eq, cases_lt, cond_both, eq-eqb, ne_eqb, or_from}
use Rattle.std.proofs.lemmas.List.Elements.{All-from_recursion}
use Rattle.merge_core.specs.declared.cell.Cell.{Cell}
use Rattle.merge_core.specs.declared.cell.Cell.TheVariants.{Out, Taken, Ann, Fin}
use Rattle.merge_core.specs.Layout.{shape_of, at_sites}
use Rattle.merge_core.specs.Rows.{start_counter}
use Rattle.merge_core.specs.Changes.{keeps_counter}
use Rattle.admission_model.specs.Account.{Account, Origin, begin, sessions_of, own}
use Rattle.admission_model.specs.Knowledge.{known, told, kept_or_start, resumed, grown}
use Rattle.admission_model.specs.Sound.{IsSound, IsOrigin}
use Rattle.admission_model.specs.Laws.{ShowTheSame}
use Rattle.admission_model.specs.Reached.{IsReached}
use Rattle.admission_model.specs.Durable.{Named, of_other, named, counter_named, at_slot, places, slot_count, slots_of, start_slots, durable_cells}
use Rattle.admission_model.specs.Restoring.{stored_at, slot_if, slot_of, stored_in, counters_from, origin_from, AreCells, AreSessions}
use Rattle.admission_model.proofs.CounterLemmas.{known_own}
use Rattle.admission_model.proofs.RowLemmas.{start_past, start_elsewhere}
use Rattle.admission_model.proofs.HeardLemmas.{kept_row, kept_column, kept_yes, kept_no}
use Rattle.admission_model.proofs.DurableLemmas.{is_resumed, sound_resumed}
use Rattle.admission_model.proofs.LawLemmas.{sound_reached, past_rows}
use Rattle.admission_model.proofs.ChangeLemmas.{durable_rises}
use Rattle.admission_model.proofs.OriginLemmas.{cells_from, sessions_from}
use Rattle.admission_model.proofs.StoredLemmas.{places_have, places_below, picked, stored_or_start, stored_past}
use Rattle.admission_model.proofs.SlotLemmas.{counter_of_row, Stays, named_stays, of_other-yes, of_other-no, named_sent, named_sent_past, named_column, named_announced, named_finished, slot_if-yes, slot_if-no, slot_sent, slot_column, slot_elsewhere, slot_taken, slot_not_taken, slot_announced, slot_announced_other, slot_finished, slot_finished_other}

-- the counters that the cells of a durable part tell are those that a restart keeps
module _ (a : Account) (is : IsReached a) (n : ℕ) (more : a.sites ≤ n) (few : n ≤ 16) where
  sound : IsSound a
  sound = sound_reached a is

  abbrev start : ℕ → ℕ → Cell → ℕ
  start = start_counter (shape_of a.origin.layout)

  cells_below : AllByRecursion (λ c. c.r < length a.origin.layout.records) (durable_cells a)
  cells_below =
      picked (λ c. c.r < length a.origin.layout.records) (λ p. p.r < 0 + length a.origin.layout.records) _ (slots_of a) (λ p low e. omega (arith, low)) (places a.origin.layout) (places_below 0 (length a.origin.layout.records))

  low_slot : (slot : ℕ) → slot < 416 → slot < slot_count
  unfolding slot_count
  low_slot slot low = low

  -- the counter that a slot tells, or its start
  abbrev told_from : ℕ → Option ℕ → ℕ → Cell → ℕ
  told_from r o s cell = unwrap_or (stored_in (durable_cells a) r o) (start r s cell)

  -- a slot that names a counter, or none, where the counter is 0
  abbrev IsSlotOf : ℕ → ℕ → ℕ → Cell → Type 0
  IsSlotOf r slot s cell = (named a.sites a.origin.site slot ≡ counter_of_row s cell) ⊎ ((named a.sites a.origin.site slot ≡ None) × ((known a r s cell ≡ 0) × (start r s cell ≡ 0)))

  by_slot : (r slot s : ℕ) (cell : Cell) → r < length a.origin.layout.records → slot < 416 → IsSlotOf r slot s cell → told_from r (Some slot) s cell ≡ known a r s cell
  by_slot r slot s cell below low is_slot = ap (unwrap_or (stored_at (durable_cells a) r slot)) (at_start is_slot) ∙ (found ∙ at_known is_slot)
    where
      found : unwrap_or (stored_at (durable_cells a) r slot) (start_slots a r slot) ≡ slots_of a r slot
      found =
          stored_or_start (start_slots a) (slots_of a) r slot (places a.origin.layout)
          (places_have 0 (length a.origin.layout.records) r slot (omega arith) (omega arith) (low_slot slot low))

      at_start : IsSlotOf r slot s cell → start r s cell ≡ start_slots a r slot
      at_start (inl e) = sym (ap (counter_named start r) e)
      at_start (inr (none, zeros)) = zeros.1 ∙ sym (ap (counter_named start r) none)

      at_known : IsSlotOf r slot s cell → slots_of a r slot ≡ known a r s cell
      at_known (inl e) = ap (counter_named (known a) r) e
      at_known (inr (none, zeros)) = ap (counter_named (known a) r) none ∙ sym zeros.0

  -- a counter of another site, from one slot on
  other_slot : (r s first : ℕ) (cell : Cell) → r < length a.origin.layout.records → s < n → s ≢ a.origin.site → first ≤ 400 → start r s cell ≡ 0 → named a.sites a.origin.site (first + s) ≡ of_other a.sites a.origin.site s cell → told_from r (slot_if n s (first + s)) s cell ≡ known a r s cell
  other_slot r s first cell below there apart low zero is_named =
      ap (λ o. told_from r o s cell) (slot_if-yes n s (first + s) there)
      ∙ by_slot r (first + s) s cell below (omega arith) (at (cases_lt s a.sites))
    where
      at : (s < a.sites) ⊎ (a.sites ≤ s) → IsSlotOf r (first + s) s cell
      at (inl lower) = inl (is_named ∙ of_other-yes a.sites a.origin.site s cell lower apart)
      at (inr past) = inr (is_named ∙ of_other-no a.sites a.origin.site s cell past, (past_rows a is r s cell past ∙ zero, zero))

  other_row : (r s first : ℕ) (cell : Cell) → r < length a.origin.layout.records → s ≢ a.origin.site → first ≤ 400 → start r s cell ≡ 0 → (s < 100 → named a.sites a.origin.site (first + s) ≡ of_other a.sites a.origin.site s cell) → told_from r (slot_if n s (first + s)) s cell ≡ known a r s cell
  other_row r s first cell below apart low zero is_named = at (cases_lt s n)
    where
      at : (s < n) ⊎ (n ≤ s) → told_from r (slot_if n s (first + s)) s cell ≡ known a r s cell
      at (inl there) = other_slot r s first cell below there apart low zero (is_named (omega arith))
      at (inr past) = ap (λ o. told_from r o s cell) (slot_if-no n s (first + s) past) ∙ sym (past_rows a is r s cell (omega arith))

  -- seats that the site sent
  sent : (r j : ℕ) → r < length a.origin.layout.records → told_from r (slot_if n j j) a.origin.site (Out j) ≡ known a r a.origin.site (Out j)
  sent r j below = at (cases_lt j n) (cases_lt j a.sites)
    where
      zero_known : a.sites ≤ j → known a r a.origin.site (Out j) ≡ 0
      zero_known past = known_own a r (Out j) ∙ sound.no_others.none_sent r j past

      zero_start : a.sites ≤ j → start r a.origin.site (Out j) ≡ 0
      zero_start past = start_elsewhere (shape_of a.origin.layout) r a.origin.site j (λ e. absurd (omega (arith, sound.site_there)))

      at : (j < n) ⊎ (n ≤ j) → (j < a.sites) ⊎ (a.sites ≤ j) → told_from r (slot_if n j j) a.origin.site (Out j) ≡ known a r a.origin.site (Out j)
      at (inl there) (inl lower) =
          ap (λ o. told_from r o a.origin.site (Out j)) (slot_if-yes n j j there)
          ∙ by_slot r j a.origin.site (Out j) below (omega arith) (inl (named_sent a.sites a.origin.site j lower (omega arith)))
      at (inl there) (inr past) =
          ap (λ o. told_from r o a.origin.site (Out j)) (slot_if-yes n j j there)
          ∙ by_slot r j a.origin.site (Out j) below (omega arith) (inr (named_sent_past a.sites a.origin.site j past (omega arith), (zero_known past, zero_start past)))
      at (inr beyond) (inl lower) = absurd (omega arith)
      at (inr beyond) (inr past) =
          ap (λ o. told_from r o a.origin.site (Out j)) (slot_if-no n j j beyond) ∙ (zero_start past ∙ sym (zero_known past))

  -- each counter of a record that is there: of the own row ..
  abbrev Agrees : ℕ → ℕ → Cell → Type 0
  Agrees r s cell = told_from r (slot_of n a.origin.site s cell) s cell ≡ kept_or_start a.origin (known a) r s cell

  own_agrees : (r : ℕ) (cell : Cell) → r < length a.origin.layout.records → told_from r (slot_of n a.origin.site a.origin.site cell) a.origin.site cell ≡ known a r a.origin.site cell
  own_agrees r (Out j) below = ap (λ o. told_from r o a.origin.site (Out j)) (slot_sent n a.origin.site j) ∙ sent r j below
  own_agrees r Taken below =
      ap (λ o. told_from r o a.origin.site Taken) (slot_taken n a.origin.site) ∙ by_slot r 200 a.origin.site Taken below (omega arith) (inl refl)
  own_agrees r Ann below =
      ap (λ o. told_from r o a.origin.site Ann) (slot_announced n a.origin.site) ∙ by_slot r 201 a.origin.site Ann below (omega arith) (inl refl)
  own_agrees r Fin below =
      ap (λ o. told_from r o a.origin.site Fin) (slot_finished n a.origin.site) ∙ by_slot r 202 a.origin.site Fin below (omega arith) (inl refl)

  -- .. and of another site's row
  other_agrees : (r s : ℕ) (cell : Cell) → r < length a.origin.layout.records → s ≢ a.origin.site → Agrees r s cell
  other_agrees r s (Out j) below apart = at (cases_eq j a.origin.site)
    where
      column : told_from r (slot_of n a.origin.site s (Out a.origin.site)) s (Out a.origin.site) ≡ known a r s (Out a.origin.site)
      column =
          ap (λ o. told_from r o s (Out a.origin.site)) (slot_column n a.origin.site s apart)
          ∙ other_row r s 100 (Out a.origin.site) below apart (omega arith)
          (start_elsewhere (shape_of a.origin.layout) r s a.origin.site (λ e. apart (sym e))) (named_column a.sites a.origin.site s)

      at : (j ≡ a.origin.site) ⊎ (j ≡ a.origin.site → ⊥) → Agrees r s (Out j)
      at (inl e) =
          subst (λ (x : ℕ). Agrees r s (Out x)) (sym e)
          (column ∙ sym (kept_yes a.origin (known a) r s (Out a.origin.site) (kept_column a.origin.site s)))
      at (inr ne) =
          ap (λ o. told_from r o s (Out j)) (slot_elsewhere n a.origin.site s j apart ne)
          ∙ sym (kept_no a.origin (known a) r s (Out j) (or_from (eqb s a.origin.site) (eqb j a.origin.site) (ne_eqb s a.origin.site apart) (ne_eqb j a.origin.site ne)))
  other_agrees r s Taken below apart =
      ap (λ o. told_from r o s Taken) (slot_not_taken n a.origin.site s apart) ∙ sym (kept_no a.origin (known a) r s Taken (ne_eqb s a.origin.site apart))
  other_agrees r s Ann below apart =
      ap (λ o. told_from r o s Ann) (slot_announced_other n a.origin.site s apart)
      ∙ (other_row r s 300 Ann below apart (omega arith) refl (named_announced a.sites a.origin.site s) ∙ sym (kept_yes a.origin (known a) r s Ann refl))
  other_agrees r s Fin below apart =
      ap (λ o. told_from r o s Fin) (slot_finished_other n a.origin.site s apart)
      ∙ (other_row r s 400 Fin below apart (omega arith) refl (λ low. named_finished a.sites a.origin.site s) ∙ sym (kept_yes a.origin (known a) r s Fin refl))

  -- a record that is not there
  past_agrees : (r s : ℕ) (cell : Cell) → length a.origin.layout.records ≤ r → Agrees r s cell
  past_agrees r s cell past = zero_told (slot_of n a.origin.site s cell) ∙ sym zero_kept
    where
      zero_told : (o : Option ℕ) → told_from r o s cell ≡ 0
      zero_told None = start_past a.origin.layout r s cell past
      zero_told (Some slot) =
          ap (λ o. unwrap_or o (start r s cell)) (stored_past (length a.origin.layout.records) r slot (durable_cells a) cells_below past)
          ∙ start_past a.origin.layout r s cell past

      zero_known : known a r s cell ≡ 0
      zero_known =
          cond_both (eqb s a.origin.site) (own a r cell) (told a r s cell) (λ x. x ≡ 0) (λ e. sound.no_other_records.none_done r cell past) (λ e. sound.no_other_records.none_heard r s cell past)

      zero_kept : kept_or_start a.origin (known a) r s cell ≡ 0
      zero_kept =
          cond_both (keeps_counter a.origin.site s cell) (known a r s cell) (start r s cell) (λ x. x ≡ 0) (λ e. zero_known) (λ e. start_past a.origin.layout r s cell past)

  pub counters_kept : (r s : ℕ) (cell : Cell) → counters_from (at_sites n a.origin.layout) a.origin.site (durable_cells a) r s cell ≡ kept_or_start a.origin (known a) r s cell
  counters_kept r s cell = at (cases_lt r (length a.origin.layout.records)) (cases_eq s a.origin.site)
    where
      at : (r < length a.origin.layout.records) ⊎ (length a.origin.layout.records ≤ r) → (s ≡ a.origin.site) ⊎ (s ≡ a.origin.site → ⊥) → Agrees r s cell
      at (inr past) other = past_agrees r s cell past
      at (inl below) (inl e) =
          subst (λ (x : ℕ). Agrees r x cell) (sym e)
          (own_agrees r cell below ∙ sym (kept_yes a.origin (known a) r a.origin.site cell (kept_row a.origin.site cell)))
      at (inl below) (inr ne) = other_agrees r s cell below ne

  same_origin : origin_from (at_sites n a.origin.layout) a.origin.site (durable_cells a) (sessions_of a) ≡ resumed n a
  same_origin =
      let same : counters_from (at_sites n a.origin.layout) a.origin.site (durable_cells a) ≡ kept_or_start a.origin (known a) = λ k r s cell. counters_kept r s cell k in
      ap (λ f. record { layout = at_sites n a.origin.layout; site = a.origin.site; base = record { counters = f; sessions = sessions_of a } }) same

  pub may_begin : IsOrigin (origin_from (at_sites n a.origin.layout) a.origin.site (durable_cells a) (sessions_of a))
  may_begin = subst IsOrigin (sym same_origin) (sound_resumed a n more sound)

  pub begun_again : ShowTheSame (begin (origin_from (at_sites n a.origin.layout) a.origin.site (durable_cells a) (sessions_of a))) (grown n a)
  begun_again = subst (λ (o : Origin). ShowTheSame (begin o) (grown n a)) (sym same_origin) (is_resumed a n sound)

  -- a slot whose counter has left its start names a counter
  left_start : (r slot : ℕ) → not (eqb (slots_of a r slot) (start_slots a r slot)) ≡ true → (is_some (named n a.origin.site slot) ≡ true) × (slots_of a r slot ≢ at_slot n a.origin.site start r slot)
  left_start r slot left = at (named a.sites a.origin.site slot) refl (named_stays a.sites n a.origin.site slot more)
    where
      apart : slots_of a r slot ≡ start_slots a r slot → ⊥
      apart e = let clash : false ≡ true = sym (ap not (eq-eqb (slots_of a r slot) (start_slots a r slot) e)) ∙ left in cc

      at : (o : Option Named) → named a.sites a.origin.site slot ≡ o → Stays (named a.sites a.origin.site slot) (named n a.origin.site slot) → (is_some (named n a.origin.site slot) ≡ true) × (slots_of a r slot ≢ at_slot n a.origin.site start r slot)
      at None e stays = absurd (apart (ap (counter_named (known a) r) e ∙ sym (ap (counter_named start r) e)))
      at (Some it) e (inl none) = let clash : ◌≡◌ {A = Option Named} None (Some it) = sym none ∙ e in cc
      at (Some it) e (inr same) = (ap is_some (same ∙ e), λ level. apart (level ∙ ap (counter_named start r) same))

  pub stored_cells : AreCells (at_sites n a.origin.layout) a.origin.site (durable_cells a)
  stored_cells =
      cells_from (at_sites n a.origin.layout) a.origin.site (durable_cells a) (sessions_of a) may_begin (durable_rises a)
      (All-from_recursion (λ c. c.r < length a.origin.layout.records) (durable_cells a) cells_below)
      (All-from_recursion (λ c. is_some (named n a.origin.site c.slot) ≡ true) (durable_cells a)
      (picked (λ c. is_some (named n a.origin.site c.slot) ≡ true) (λ p. p.r < 0 + length a.origin.layout.records) _ (slots_of a)
      (λ p low left. (left_start p.r p.slot left).0) (places a.origin.layout) (places_below 0 (length a.origin.layout.records))))
      (All-from_recursion (λ c. c.value ≢ at_slot n a.origin.site start c.r c.slot) (durable_cells a)
      (picked (λ c. c.value ≢ at_slot n a.origin.site start c.r c.slot) (λ p. p.r < 0 + length a.origin.layout.records) _ (slots_of a)
      (λ p low left. (left_start p.r p.slot left).1) (places a.origin.layout) (places_below 0 (length a.origin.layout.records))))

  pub stored_sessions : AreSessions (at_sites n a.origin.layout) a.origin.site (durable_cells a) (sessions_of a)
  stored_sessions = sessions_from (at_sites n a.origin.layout) a.origin.site (durable_cells a) (sessions_of a) may_begin
