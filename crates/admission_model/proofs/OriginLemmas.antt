-- Cells and sessions that agree, and the account that begins from them.
use Rattle.std.proofs.Common.{◌≡◌, ◌≢◌, ℕ, ◌<◌, ◌≤◌, ◌⊎◌, inl, inr, true, false, List, [], ◌∷◌, length, map, Option, Some, None, unwrap_or, refl, sym, ap, subst, ◌∙◌, arith}
use Rattle.std.specs.Prelude.{IsSome}
use Rattle.std.specs.List.{AllByRecursion, All}
use Rattle.std.proofs.lemmas.Bool.{cases_eq, cases_Bool, cond-true, cond-false}
use Rattle.std.proofs.lemmas.List.Elements.{All-from_recursion, recursion_from_All}
use Rattle.merge_core.specs.declared.cell.Cell.{Cell}
use Rattle.merge_core.specs.declared.cell.Cell.TheVariants.{Out, Taken}
use Rattle.merge_core.specs.Layout.{LayoutState, shape_of}
use Rattle.merge_core.specs.Rows.{grant, start_counter}
use Rattle.merge_core.specs.Counts.{counter_limit}
use Rattle.session_list.specs.declared.session.Phase.{Phase}
use Rattle.session_list.specs.declared.session.Session.{Session}
use Rattle.session_list.specs.Sessions.{phase_in, IsOnce}
use Rattle.admission_model.specs.declared.durable.DurableCell.{DurableCell}
use Rattle.admission_model.specs.Account.{begin, seats_in, is_key, key_of, occurs, sessions_of, session_total, weight, writers}
use Rattle.admission_model.specs.Replies.{holder_limit}
use Rattle.admission_model.specs.Sound.{FitsRow, IsOrigin}
use Rattle.admission_model.specs.Durable.{named, at_slot, AreRising}
use Rattle.admission_model.specs.Restoring.{slot_of, stored_in, counters_from, origin_from, AreCells, AreSessions}
use Rattle.admission_model.proofs.KeyLemmas.{is_key-true}
use Rattle.admission_model.proofs.SessionLemmas.{is_key-refl}
use Rattle.admission_model.proofs.RowLemmas.{start_past, start_elsewhere, start_diagonal}
use Rattle.admission_model.proofs.HeardLemmas.{kept_row, kept_column, kept_yes, kept_most, FitsRow-kept}
use Rattle.admission_model.proofs.OrderLemmas.{Once, IsStored, all_stored, stored_occurs, later_once, move_all, sessions_begun, present_stored}
use Rattle.admission_model.proofs.StoredLemmas.{stored_past}
use Rattle.admission_model.proofs.SlotLemmas.{slot_past, slot_sent_past, slot_elsewhere, slot_not_taken}

-- each holder stands once, said in both ways
pub once_from : (ss : List Session) → Once ss → IsOnce ss
once_from [] once = tt
once_from (s ∷ ss) once = (at (phase_in ss s.r s.h) refl, once_from ss (later_once s ss once))
  where
    at : (o : Option Phase) → phase_in ss s.r s.h ≡ o → phase_in ss s.r s.h ≡ None
    at None e = e
    at (Some p) e =
        let first = once s.r s.h s.phase (cond-true (is_key s.r s.h s.r s.h) (Some s.phase) (phase_in ss s.r s.h) (is_key-refl s.r s.h)) in
        absurd (omega (arith, first, stored_occurs ss s.r s.h p e, cond-true {A = ℕ} (is_key s.r s.h s.r s.h) 1 0 (is_key-refl s.r s.h)))

none_occurs : (ss : List Session) (r h : ℕ) → phase_in ss r h ≡ None → occurs r h (map key_of ss) ≡ 0
none_occurs [] r h none = refl
none_occurs (s ∷ ss) r h none = at (cases_Bool (is_key r h s.r s.h)) (none_occurs ss r h)
  where
    at : (is_key r h s.r s.h ≡ true) ⊎ (is_key r h s.r s.h ≡ false) → (phase_in ss r h ≡ None → occurs r h (map key_of ss) ≡ 0) → occurs r h (map key_of (s ∷ ss)) ≡ 0
    at (inl t) later =
        let clash : ◌≡◌ {A = Option Phase} (Some s.phase) None = sym (cond-true (is_key r h s.r s.h) (Some s.phase) (phase_in ss r h) t) ∙ none in cc
    at (inr f) later =
        omega (arith, later (sym (cond-false (is_key r h s.r s.h) (Some s.phase) (phase_in ss r h) f) ∙ none), cond-false {A = ℕ} (is_key r h s.r s.h) 1 0 f)

pub once_to : (ss : List Session) → IsOnce ss → Once ss
once_to [] once r h p e = cc
once_to (s ∷ ss) once r h p e = at (cases_Bool (is_key r h s.r s.h)) (once_to ss once.1 r h p)
  where
    at : (is_key r h s.r s.h ≡ true) ⊎ (is_key r h s.r s.h ≡ false) → (phase_in ss r h ≡ Some p → occurs r h (map key_of ss) ≡ 1) → occurs r h (map key_of (s ∷ ss)) ≡ 1
    at (inl t) later =
        let same = is_key-true r h s.r s.h t in
        let none : phase_in ss r h ≡ None = ap (λ x. phase_in ss x h) same.0 ∙ (ap (phase_in ss s.r) same.1 ∙ once.0) in
        omega (arith, none_occurs ss r h none, cond-true {A = ℕ} (is_key r h s.r s.h) 1 0 t)
    at (inr f) later =
        omega (arith, later (sym (cond-false (is_key r h s.r s.h) (Some s.phase) (phase_in ss r h) f) ∙ e), cond-false {A = ℕ} (is_key r h s.r s.h) 1 0 f)

-- what holds of each session holds of each phase that is found
of_phase : (P : ℕ → ℕ → Type 0) (ss : List Session) → AllByRecursion (λ s. P s.r s.h) ss → (r h : ℕ) (p : Phase) → phase_in ss r h ≡ Some p → P r h
of_phase P [] all r h p e = cc
of_phase P (s ∷ ss) all r h p e = at (cases_Bool (is_key r h s.r s.h)) (of_phase P ss all.1 r h p)
  where
    at : (is_key r h s.r s.h ≡ true) ⊎ (is_key r h s.r s.h ≡ false) → (phase_in ss r h ≡ Some p → P r h) → P r h
    at (inl t) later =
        let same = is_key-true r h s.r s.h t in
        subst (λ (x : ℕ). P x h) (sym same.0) (subst (λ (x : ℕ). P s.r x) (sym same.1) all.0)
    at (inr f) later = later (sym (cond-false (is_key r h s.r s.h) (Some s.phase) (phase_in ss r h) f) ∙ e)

-- cells and sessions from which an account may begin are such cells and sessions
pub cells_from : (layout : LayoutState) (i : ℕ) (cells : List DurableCell) (sessions : List Session) → IsOrigin (origin_from layout i cells sessions) → AreRising cells → All (λ c. c.r < length layout.records) cells → All (λ c. IsSome (named layout.sites i c.slot)) cells → All (λ c. c.value ≢ at_slot layout.sites i (start_counter (shape_of layout)) c.r c.slot) cells → AreCells layout i cells
cells_from layout i cells sessions sound rising records slots moved =
    let o = origin_from layout i cells sessions in
    record {
      rising = rising;
      records = records;
      slots = slots;
      moved = moved;
      own_rows = λ r. (sound.balanced r).fits;
      columns = λ r j apart.
          omega (arith, (sound.told_fits r j).few_moved i (λ e. apart (sym e)), kept_yes o (counters_from layout i cells) r j (Out i) (kept_column i j));
      finished = λ r j. (sound.told_fits r j).finished_after_announced;
      announced = λ r j. (sound.told_fits r j).few_announced;
      affordable = λ r. (sound.balanced r).affordable;
      few_writers = λ r. omega (arith, (sound.balanced r).writers, (sound.balanced r).few_writers);
    }

pub sessions_from : (layout : LayoutState) (i : ℕ) (cells : List DurableCell) (sessions : List Session) → IsOrigin (origin_from layout i cells sessions) → AreSessions layout i cells sessions
sessions_from layout i cells sessions sound =
    let o = origin_from layout i cells sessions in
    let order = sessions_begun o sound in
    let stored = all_stored sessions sound.listed_once in
    record {
      records = All-from_recursion (λ s. s.r < length layout.records) sessions
          (move_all (IsStored (phase_in sessions)) (λ s. s.r < length layout.records) (λ s there. sound.record_there s.r s.h s.phase there) sessions stored);
      holders = All-from_recursion (λ s. s.h ≤ holder_limit) sessions
          (move_all (IsStored (phase_in sessions)) (λ s. s.h ≤ holder_limit) (λ s there. sound.holder_there s.r s.h s.phase there) sessions stored);
      once = once_from sessions sound.listed_once;
      seats = λ r. omega (arith, (sound.balanced r).seats, ap (session_total (weight (seats_in layout r)) r) order);
      writers = λ r. omega (arith, (sound.balanced r).writers, ap (session_total writers r) order);
    }

-- an account may begin from such cells and sessions
module _ (layout : LayoutState) (i : ℕ) (cells : List DurableCell) (sessions : List Session) (there : i < layout.sites) (are : AreCells layout i cells) where
  abbrev counters : ℕ → ℕ → Cell → ℕ
  counters = counters_from layout i cells

  -- a counter without a slot is at its start
  at_start : (r s : ℕ) (cell : Cell) → slot_of layout.sites i s cell ≡ None → counters r s cell ≡ start_counter (shape_of layout) r s cell
  at_start r s cell none = ap (λ o. unwrap_or (stored_in cells r o) (start_counter (shape_of layout) r s cell)) none

  past_records : (r s : ℕ) (cell : Cell) → length layout.records ≤ r → counters r s cell ≡ 0
  past_records r s cell past = at (slot_of layout.sites i s cell)
    where
      at : (o : Option ℕ) → unwrap_or (stored_in cells r o) (start_counter (shape_of layout) r s cell) ≡ 0
      at None = start_past layout r s cell past
      at (Some slot) =
          ap (λ o. unwrap_or o (start_counter (shape_of layout) r s cell))
          (stored_past (length layout.records) r slot cells (recursion_from_All (λ c. c.r < length layout.records) cells are.records) past)
          ∙ start_past layout r s cell past

  other_row : (r s : ℕ) → s ≢ i → FitsRow (grant (shape_of layout) r s) s (counters r s)
  other_row r s apart =
      let diagonal = at_start r s (Out s) (slot_elsewhere layout.sites i s s apart apart) in
      record {
        grant_kept = omega (arith, diagonal, start_diagonal (shape_of layout) r s);
        returned_after_taken = omega (arith, diagonal, start_diagonal (shape_of layout) r s);
        few_taken = omega (arith, at_start r s Taken (slot_not_taken layout.sites i s apart));
        few_moved = λ j apart_j. moved j apart_j (cases_eq j i);
        finished_after_announced = are.finished r s;
        few_announced = are.announced r s;
      }
    where
      moved : (j : ℕ) → j ≢ s → (j ≡ i) ⊎ (j ≡ i → ⊥) → counters r s (Out j) ≤ counter_limit
      moved j apart_j (inl e) = subst (λ (x : ℕ). counters r s (Out x) ≤ counter_limit) (sym e) (are.columns r s apart)
      moved j apart_j (inr ne) =
          omega (arith, at_start r s (Out j) (slot_elsewhere layout.sites i s j apart ne), start_elsewhere (shape_of layout) r s j apart_j)

  pub rows_fit : (r s : ℕ) → FitsRow (grant (shape_of layout) r s) s (counters r s)
  rows_fit r s = at (cases_eq s i)
    where
      at : (s ≡ i) ⊎ (s ≡ i → ⊥) → FitsRow (grant (shape_of layout) r s) s (counters r s)
      at (inl e) = subst (λ (x : ℕ). FitsRow (grant (shape_of layout) r x) x (counters r x)) (sym e) (are.own_rows r)
      at (inr ne) = other_row r s ne

  pub begins_from : AreSessions layout i cells sessions → IsOrigin (origin_from layout i cells sessions)
  begins_from agree =
      let o = origin_from layout i cells sessions in
      let once = once_to sessions agree.once in
      let order : sessions_of (begin o) ≡ sessions = present_stored (phase_in sessions) sessions (all_stored sessions once) in
      record {
        site_there = there;
        listed_once = once;
        record_there = of_phase (λ r h. r < length layout.records) sessions (recursion_from_All (λ s. s.r < length layout.records) sessions agree.records);
        holder_there = of_phase (λ r h. h ≤ holder_limit) sessions (recursion_from_All (λ s. s.h ≤ holder_limit) sessions agree.holders);
        balanced = λ r. record {
          affordable = are.affordable r;
          seats = omega (arith, agree.seats r, ap (session_total (weight (seats_in layout r)) r) order);
          writers = omega (arith, agree.writers r, ap (session_total writers r) order);
          few_writers = omega (arith, agree.writers r, are.few_writers r, ap (session_total writers r) order);
          fits = are.own_rows r;
        };
        told_fits = λ r s. FitsRow-kept o counters r s (rows_fit r s);
        told_after_done = λ r cell. omega (arith, kept_yes o counters r i cell (kept_row i cell));
        no_others = record {
          none_sent = λ r j past.
              at_start r i (Out j) (slot_sent_past layout.sites i i j there past) ∙ start_elsewhere (shape_of layout) r i j (λ e. absurd (omega arith));
          none_told = λ r s cell past.
              kept_most o counters r s cell (omega (arith, at_start r s cell (slot_past layout.sites i s cell (λ e. absurd (omega arith)) past)));
          none_told_sent = λ r s j past.
              kept_most o counters r s (Out j) (omega (arith, at_start r s (Out j) (slot_sent_past layout.sites i s j there past)));
        };
        no_other_records = record {
          none_done = λ r cell past. past_records r i cell past;
          none_heard = λ r s cell past.
              omega (arith, kept_most o counters r s cell (omega (arith, past_records r s cell past)), start_past layout r s cell past);
        };
      }
