-- What an ask that nothing refuses changes of the durable part, and which calls change nothing.
use Rattle.std.proofs.Common.{◌≡◌, ℕ, ◌<◌, ◌≤◌, ◌⊎◌, inl, inr, true, false, not, cond, eqb, ltb, List, [], ◌∷◌, ◌++◌, length, Bool, Option, is_none, Some, None, refl, sym, ap, subst, ◌∙◌, arith}
use Rattle.std.specs.List.{AllByRecursion, filter}
use Rattle.std.proofs.lemmas.Bool.{cases_Bool, eq-eqb, ne_eqb, leb-false, lt-ltb, cond-true, cond-false}
use Rattle.merge_core.specs.declared.cell.Cell.TheVariants.{Out, Taken, Ann, Fin}
use Rattle.merge_core.specs.declared.delta.Row.{Row}
use Rattle.session_list.specs.declared.session.Phase.{Phase}
use Rattle.session_list.specs.declared.session.Phase.TheVariants.{Reader, Waiting, Writer}
use Rattle.session_list.specs.declared.session.Session.{Session}
use Rattle.session_list.specs.Sessions.{is_of, phase_in, IsOnce}
use Rattle.admission_model.specs.declared.ask.Ask.{Ask}
use Rattle.admission_model.specs.declared.ask.Ask.TheVariants.{Read, Announce, Quill, Leave, Give, Help}
use Rattle.admission_model.specs.declared.ask.Call.{Call}
use Rattle.admission_model.specs.declared.ask.Call.TheVariants.{Ask as AskCall}
use Rattle.admission_model.specs.declared.reply.Refusal.{Refusal}
use Rattle.admission_model.specs.declared.reply.Plan.{Plan}
use Rattle.admission_model.specs.declared.operation.Operation.{Operation}
use Rattle.admission_model.specs.declared.operation.Operation.TheVariants.{EnteredRead, AnnouncedWriter, EnteredWrite, LeftRecord, GaveSeats}
use Rattle.admission_model.specs.Account.{Account, is_key, rise_of, seats_in, weight, writers, on_phase, phase_of, sessions_of}
use Rattle.admission_model.specs.Knowledge.{known, hears}
use Rattle.admission_model.specs.View.{view_of, plan_of}
use Rattle.admission_model.specs.Replies.{planned, read_lines, announce_lines, write_lines, leave_lines, give_lines, help_lines}
use Rattle.admission_model.specs.Serving.{reason, operation_of, advanced, unless_refused, after}
use Rattle.admission_model.specs.Sound.{IsSound}
use Rattle.admission_model.specs.Reached.{IsReached}
use Rattle.admission_model.specs.Durable.{named, places, slots_of, is_phase, change_between, IsEmpty, KeepsSessions}
use Rattle.admission_model.specs.Asked.{raised_cell, session_at, operation_change}
use Rattle.admission_model.proofs.KeyLemmas.{is_key-true}
use Rattle.admission_model.proofs.SessionLemmas.{is_key-refl}
use Rattle.admission_model.proofs.RowLemmas.{none_of}
use Rattle.admission_model.proofs.CounterLemmas.{does}
use Rattle.admission_model.proofs.LeastLemmas.{plan_of-fits}
use Rattle.admission_model.proofs.ServingLemmas.{clear_of, some_of, waits, sound_after}
use Rattle.admission_model.proofs.OrderLemmas.{Once, IsStored, all_stored, stored_occurs, later_once}
use Rattle.admission_model.proofs.StandsLemmas.{phase_next, phase_does}
use Rattle.admission_model.proofs.DurableLemmas.{resumed_phase, sound_resumed}
use Rattle.admission_model.proofs.LawLemmas.{sound_reached}
use Rattle.admission_model.proofs.CellLemmas.{none_risen}
use Rattle.admission_model.proofs.ChangeLemmas.{same_phase_true, none_put, none_gone}
use Rattle.admission_model.proofs.RaisedLemmas.{own_rise, none_at, one_raised, two_raised}

-- ---- sessions

once_of : (ss : List Session) → Once ss → IsOnce ss
once_of [] once = tt
once_of (s ∷ ss) once = (at (phase_in ss s.r s.h) refl, once_of ss (later_once s ss once))
  where
    at : (o : Option Phase) → phase_in ss s.r s.h ≡ o → phase_in ss s.r s.h ≡ None
    at None e = e
    at (Some p) e =
        absurd (omega (
          arith,
          once s.r s.h s.phase (cond-true (is_key s.r s.h s.r s.h) (Some s.phase) (phase_in ss s.r s.h) (is_key-refl s.r s.h)),
          stored_occurs ss s.r s.h p e,
          cond-true {A = ℕ} (is_key s.r s.h s.r s.h) 1 0 (is_key-refl s.r s.h),
        ))

-- the phase of a holder depends on its numbers alone
at_key : (phase : ℕ → ℕ → Option Phase) (r h x y : ℕ) → is_key r h x y ≡ true → phase r h ≡ phase x y
at_key phase r h x y e =
    let same = is_key-true r h x y e in
    ap (λ n. phase n h) same.0 ∙ ap (λ n. phase x n) same.1

-- the sessions of one holder at one record are the one that is there
filter_key : (test : Session → Bool) (r h : ℕ) (ss : List Session) → IsOnce ss → AllByRecursion (λ s. test s ≡ is_of r h s) ss → filter test ss ≡ session_at r h (phase_in ss r h)
filter_key test r h [] once all = refl
filter_key test r h (s ∷ ss) once all = at (cases_Bool (is_of r h s)) (filter_key test r h ss once.1 all.1)
  where
    at : (is_of r h s ≡ true) ⊎ (is_of r h s ≡ false) → filter test ss ≡ session_at r h (phase_in ss r h) → filter test (s ∷ ss) ≡ session_at r h (phase_in (s ∷ ss) r h)
    at (inl e) later =
        let same = is_key-true r h s.r s.h e in
        cond-true (test s) (s ∷ filter test ss) (filter test ss) (all.0 ∙ e)
        ∙ (ap (λ xs. s ∷ xs) (later ∙ ap (session_at r h) (at_key (phase_in ss) r h s.r s.h e ∙ once.0))
        ∙ (ap (λ (x : ℕ). record { r = x; h = s.h; phase = s.phase } ∷ []) (sym same.0)
        ∙ (ap (λ (x : ℕ). record { r = r; h = x; phase = s.phase } ∷ []) (sym same.1)
        ∙ ap (session_at r h) (sym (cond-true (is_of r h s) (Some s.phase) (phase_in ss r h) e)))))
    at (inr e) later =
        cond-false (test s) (s ∷ filter test ss) (filter test ss) (all.0 ∙ e)
        ∙ (later ∙ ap (session_at r h) (sym (cond-false (is_of r h s) (Some s.phase) (phase_in ss r h) e)))

-- sessions before (old) and after (new) an operation that changes the phase of one holder at one record
module _ (old new : ℕ → ℕ → Option Phase) (r h : ℕ) (others : (x y : ℕ) → is_key r h x y ≡ false → new x y ≡ old x y) where
  -- of those that are there now, the holder's has come or changed
  put_key : (ss : List Session) → IsOnce ss → AllByRecursion (IsStored new) ss → ((p : Phase) → new r h ≡ Some p → is_phase p (old r h) ≡ false) → filter (λ s. not (is_phase s.phase (old s.r s.h))) ss ≡ session_at r h (phase_in ss r h)
  put_key ss once stored changes = filter_key (λ s. not (is_phase s.phase (old s.r s.h))) r h ss once (each ss stored)
    where
      at : (s : Session) → IsStored new s → (is_of r h s ≡ true) ⊎ (is_of r h s ≡ false) → not (is_phase s.phase (old s.r s.h)) ≡ is_of r h s
      at s is (inl e) =
          ap (λ o. not (is_phase s.phase o)) (sym (at_key old r h s.r s.h e))
          ∙ (ap not (changes s.phase (at_key new r h s.r s.h e ∙ is)) ∙ sym e)
      at s is (inr e) =
          ap (λ o. not (is_phase s.phase o)) (sym (others s.r s.h e) ∙ is) ∙ (ap not (same_phase_true s.phase) ∙ sym e)

      each : (xs : List Session) → AllByRecursion (IsStored new) xs → AllByRecursion (λ s. not (is_phase s.phase (old s.r s.h)) ≡ is_of r h s) xs
      each [] all = tt
      each (s ∷ xs) all = (at s all.0 (cases_Bool (is_of r h s)), each xs all.1)

  -- of those that were there, the holder's has gone
  gone_key : (ss : List Session) → IsOnce ss → AllByRecursion (IsStored old) ss → new r h ≡ None → filter (λ s. is_none (new s.r s.h)) ss ≡ session_at r h (phase_in ss r h)
  gone_key ss once stored goes = filter_key (λ s. is_none (new s.r s.h)) r h ss once (each ss stored)
    where
      at : (s : Session) → IsStored old s → (is_of r h s ≡ true) ⊎ (is_of r h s ≡ false) → is_none (new s.r s.h) ≡ is_of r h s
      at s is (inl e) = ap is_none (sym (at_key new r h s.r s.h e) ∙ goes) ∙ sym e
      at s is (inr e) = ap is_none (others s.r s.h e ∙ is) ∙ sym e

      each : (xs : List Session) → AllByRecursion (IsStored old) xs → AllByRecursion (λ s. is_none (new s.r s.h) ≡ is_of r h s) xs
      each [] all = tt
      each (s ∷ xs) all = (at s all.0 (cases_Bool (is_of r h s)), each xs all.1)

  -- and where the holder has a phase now, none has gone
  stay_key : (ss : List Session) → AllByRecursion (IsStored old) ss → (p : Phase) → new r h ≡ Some p → filter (λ s. is_none (new s.r s.h)) ss ≡ []
  stay_key [] stored p there = refl
  stay_key (s ∷ ss) stored p there =
      cond-false (is_none (new s.r s.h)) (s ∷ filter (λ x. is_none (new x.r x.h)) ss) (filter (λ x. is_none (new x.r x.h)) ss) (at (cases_Bool (is_of r h s)))
      ∙ stay_key ss stored.1 p there
    where
      at : (is_of r h s ≡ true) ⊎ (is_of r h s ≡ false) → is_none (new s.r s.h) ≡ false
      at (inl e) = ap is_none (sym (at_key new r h s.r s.h e) ∙ there)
      at (inr e) = ap is_none (others s.r s.h e ∙ stored.0)

abbrev phase_or : Phase → Option Phase → Phase
phase_or p None = p
phase_or p (Some q) = q

listed : (a : Account) → IsSound a → Once (sessions_of a)
listed a sound = (sound_resumed a a.sites (omega arith) sound).listed_once

stored_of : (a : Account) → IsSound a → AllByRecursion (IsStored (phase_in (sessions_of a))) (sessions_of a)
stored_of a sound = all_stored (sessions_of a) (listed a sound)

found : (a : Account) → IsSound a → (r h : ℕ) → phase_in (sessions_of a) r h ≡ phase_of a r h
found a sound r h = resumed_phase a a.sites sound r h

-- an operation at a site, before and after
module _ (a : Account) (operation : Operation) (sound : IsSound a) (next : IsSound (does operation a)) where
  found_next : (r h : ℕ) → phase_in (sessions_of (does operation a)) r h ≡ phase_next operation (phase_of a) r h
  found_next r h = found (does operation a) next r h ∙ phase_does a operation r h

  kept_others : (r h : ℕ) → ((x y : ℕ) → is_key r h x y ≡ false → phase_next operation (phase_of a) x y ≡ phase_of a x y) → (x y : ℕ) → is_key r h x y ≡ false → phase_in (sessions_of (does operation a)) x y ≡ phase_in (sessions_of a) x y
  kept_others r h same x y e = found_next x y ∙ (same x y e ∙ sym (found a sound x y))

  -- a holder comes or changes its phase
  put_one : (r h : ℕ) (p : Phase) → ((x y : ℕ) → is_key r h x y ≡ false → phase_next operation (phase_of a) x y ≡ phase_of a x y) → phase_next operation (phase_of a) r h ≡ Some p → is_phase p (phase_of a r h) ≡ false → (change_between a (does operation a)).put ≡ record { r = r; h = h; phase = p } ∷ []
  put_one r h p same there differs =
      put_key (phase_in (sessions_of a)) (phase_in (sessions_of (does operation a))) r h (kept_others r h same) (sessions_of (does operation a)) (once_of (sessions_of (does operation a)) (listed (does operation a) next)) (stored_of (does operation a) next) changes
      ∙ ap (session_at r h) (found_next r h ∙ there)
    where
      changes : (q : Phase) → phase_in (sessions_of (does operation a)) r h ≡ Some q → is_phase q (phase_in (sessions_of a) r h) ≡ false
      changes q is =
          let e : p ≡ q = ap (phase_or p) (sym (found_next r h ∙ there) ∙ is) in
          ap (is_phase q) (found a sound r h) ∙ (ap (λ x. is_phase x (phase_of a r h)) (sym e) ∙ differs)

  removed_none : (r h : ℕ) (p : Phase) → ((x y : ℕ) → is_key r h x y ≡ false → phase_next operation (phase_of a) x y ≡ phase_of a x y) → phase_next operation (phase_of a) r h ≡ Some p → (change_between a (does operation a)).removed ≡ []
  removed_none r h p same there =
      stay_key (phase_in (sessions_of a)) (phase_in (sessions_of (does operation a))) r h (kept_others r h same) (sessions_of a) (stored_of a sound) p (found_next r h ∙ there)

  -- a holder leaves
  put_none : (r h : ℕ) → ((x y : ℕ) → is_key r h x y ≡ false → phase_next operation (phase_of a) x y ≡ phase_of a x y) → phase_next operation (phase_of a) r h ≡ None → (change_between a (does operation a)).put ≡ []
  put_none r h same gone =
      put_key (phase_in (sessions_of a)) (phase_in (sessions_of (does operation a))) r h (kept_others r h same) (sessions_of (does operation a)) (once_of (sessions_of (does operation a)) (listed (does operation a) next)) (stored_of (does operation a) next)
      (λ p is. let clash : ◌≡◌ {A = Option Phase} None (Some p) = sym (found_next r h ∙ gone) ∙ is in cc)
      ∙ ap (session_at r h) (found_next r h ∙ gone)

  removed_one : (r h : ℕ) → ((x y : ℕ) → is_key r h x y ≡ false → phase_next operation (phase_of a) x y ≡ phase_of a x y) → phase_next operation (phase_of a) r h ≡ None → (change_between a (does operation a)).removed ≡ session_at r h (phase_of a r h)
  removed_one r h same gone =
      gone_key (phase_in (sessions_of a)) (phase_in (sessions_of (does operation a))) r h (kept_others r h same) (sessions_of a) (once_of (sessions_of a) (listed a sound)) (stored_of a sound) (found_next r h ∙ gone)
      ∙ ap (session_at r h) (found a sound r h)

-- ---- each operation

module _ (a : Account) (sound : IsSound a) where
  named_out : (k : ℕ) → k < a.sites → a.sites ≤ 100 → named a.sites a.origin.site k ≡ Some (record { s = a.origin.site; cell = Out k })
  named_out k below few =
      cond-true (ltb k 100) (cond (ltb k a.sites) (Some (record { s = a.origin.site; cell = Out k })) None) _ (lt-ltb k 100 (omega arith))
      ∙ cond-true (ltb k a.sites) (Some (record { s = a.origin.site; cell = Out k })) None (lt-ltb k a.sites below)

  changed_read : (r h : ℕ) → IsSound (does (EnteredRead r h) a) → r < length a.origin.layout.records → phase_of a r h ≡ None → change_between a (does (EnteredRead r h) a) ≡ operation_change (view_of a) (EnteredRead r h)
  changed_read r h next there absent =
      let op = EnteredRead r h in
      let here : phase_next op (phase_of a) r h ≡ Some Reader = cond-true (is_key r h r h) (Some Reader) (phase_of a r h) (is_key-refl r h) in
      let same : (x y : ℕ) → is_key r h x y ≡ false → phase_next op (phase_of a) x y ≡ phase_of a x y = λ x y e. cond-false (is_key r h x y) (Some Reader) (phase_of a x y) e in
      let cells = one_raised a op 200 Taken there (omega arith) refl (λ j apart. none_at a op r j (λ e. own_rise a op (Out j)) (λ e. absurd (apart e)) (λ e. own_rise a op Ann) (λ e. own_rise a op Fin)) in
      let put = put_one a op sound next r h Reader same here (ap (is_phase Reader) absent) in
      let removed = removed_none a op sound next r h Reader same here in
      λ i. record { cells = cells i; put = put i; removed = removed i }

  changed_announce : (r h : ℕ) → IsSound (does (AnnouncedWriter r h) a) → r < length a.origin.layout.records → phase_of a r h ≡ None → change_between a (does (AnnouncedWriter r h) a) ≡ operation_change (view_of a) (AnnouncedWriter r h)
  changed_announce r h next there absent =
      let op = AnnouncedWriter r h in
      let here : phase_next op (phase_of a) r h ≡ Some Waiting = cond-true (is_key r h r h) (Some Waiting) (phase_of a r h) (is_key-refl r h) in
      let same : (x y : ℕ) → is_key r h x y ≡ false → phase_next op (phase_of a) x y ≡ phase_of a x y = λ x y e. cond-false (is_key r h x y) (Some Waiting) (phase_of a x y) e in
      let cells = one_raised a op 201 Ann there (omega arith) refl (λ j apart. none_at a op r j (λ e. own_rise a op (Out j)) (λ e. own_rise a op Taken) (λ e. absurd (apart e)) (λ e. own_rise a op Fin)) in
      let put = put_one a op sound next r h Waiting same here (ap (is_phase Waiting) absent) in
      let removed = removed_none a op sound next r h Waiting same here in
      λ i. record { cells = cells i; put = put i; removed = removed i }

  changed_write : (r h : ℕ) → IsSound (does (EnteredWrite r h) a) → r < length a.origin.layout.records → phase_of a r h ≡ Some Waiting → change_between a (does (EnteredWrite r h) a) ≡ operation_change (view_of a) (EnteredWrite r h)
  changed_write r h next there waiting =
      let op = EnteredWrite r h in
      let here : phase_next op (phase_of a) r h ≡ Some Writer = cond-true (is_key r h r h) (Some Writer) (phase_of a r h) (is_key-refl r h) in
      let same : (x y : ℕ) → is_key r h x y ≡ false → phase_next op (phase_of a) x y ≡ phase_of a x y = λ x y e. cond-false (is_key r h x y) (Some Writer) (phase_of a x y) e in
      let cells = one_raised a op 200 Taken there (omega arith) refl (λ j apart. none_at a op r j (λ e. own_rise a op (Out j)) (λ e. absurd (apart e)) (λ e. own_rise a op Ann) (λ e. own_rise a op Fin)) in
      let put = put_one a op sound next r h Writer same here (ap (is_phase Writer) waiting) in
      let removed = removed_none a op sound next r h Writer same here in
      λ i. record { cells = cells i; put = put i; removed = removed i }

  changed_leave : (r h : ℕ) → IsSound (does (LeftRecord r h) a) → r < length a.origin.layout.records → a.sites ≤ 100 → change_between a (does (LeftRecord r h) a) ≡ operation_change (view_of a) (LeftRecord r h)
  changed_leave r h next there few =
      let op = LeftRecord r h in
      let site = a.origin.site in
      let here : phase_next op (phase_of a) r h ≡ None = cond-true (is_key r h r h) None (phase_of a r h) (is_key-refl r h) in
      let same : (x y : ℕ) → is_key r h x y ≡ false → phase_next op (phase_of a) x y ≡ phase_of a x y = λ x y e. cond-false (is_key r h x y) None (phase_of a x y) e in
      let back : rise_of (seats_in a.origin.layout) site (phase_of a) op (Out site) ≡ on_phase (weight (seats_in a.origin.layout r)) (phase_of a r h) = cond-true (eqb site site) (on_phase (weight (seats_in a.origin.layout r)) (phase_of a r h)) 0 (eq-eqb site site refl) in
      let cells = two_raised a op site 202 (Out site) Fin there (omega (arith, sound.site_there)) (omega arith) (named_out site sound.site_there few) refl (λ j apart other. none_at a op r j
      (λ e. own_rise a op (Out j) ∙ cond-false (eqb j site) (on_phase (weight (seats_in a.origin.layout r)) (phase_of a r h)) 0 (ne_eqb j site apart))
      (λ e. own_rise a op Taken) (λ e. own_rise a op Ann) (λ e. absurd (other e)))
      ∙ ap (λ n. raised_cell r site (known a r site (Out site)) n ++ raised_cell r 202 (known a r site Fin) (on_phase writers (phase_of a r h))) back in
      let put = put_none a op sound next r h same here in
      let removed = removed_one a op sound next r h same here in
      λ i. record { cells = cells i; put = put i; removed = removed i }

  changed_give : (r to seats : ℕ) → r < length a.origin.layout.records → to < a.sites → a.sites ≤ 100 → change_between a (does (GaveSeats r to seats) a) ≡ operation_change (view_of a) (GaveSeats r to seats)
  changed_give r to seats there below few =
      let op = GaveSeats r to seats in
      let site = a.origin.site in
      let moved : rise_of (seats_in a.origin.layout) site (phase_of a) op (Out to) ≡ seats = cond-true (eqb to to) seats 0 (eq-eqb to to refl) in
      let cells = one_raised a op to (Out to) there (omega arith) (named_out to below few) (λ j apart. none_at a op r j
      (λ e. own_rise a op (Out j) ∙ cond-false (eqb j to) seats 0 (ne_eqb j to apart))
      (λ e. own_rise a op Taken) (λ e. own_rise a op Ann) (λ e. own_rise a op Fin))
      ∙ ap (raised_cell r to (known a r site (Out to))) moved in
      let put = none_put (phase_in (sessions_of a)) (sessions_of a) (stored_of a sound) in
      let removed = none_gone (phase_in (sessions_of a)) (sessions_of a) (stored_of a sound) in
      λ i. record { cells = cells i; put = put i; removed = removed i }

-- ---- each ask

changed_ask : (a : Account) (ask : Ask) → IsSound a → IsSound (does (operation_of (view_of a) ask) a) → reason (view_of a) (AskCall ask) ≡ None → a.sites ≤ 100 → change_between a (advanced a (AskCall ask)) ≡ operation_change (view_of a) (operation_of (view_of a) ask)
changed_ask a (Read r h) sound next free few =
    let clear = clear_of (read_lines (view_of a) r h) free in
    changed_read a sound r h next (leb-false (length a.origin.layout.records) r clear.0) (none_of (phase_of a r h) clear.1.1.0)
changed_ask a (Announce r h) sound next free few =
    let clear = clear_of (announce_lines (view_of a) r h) free in
    changed_announce a sound r h next (leb-false (length a.origin.layout.records) r clear.0) (none_of (phase_of a r h) clear.1.1.0)
changed_ask a (Quill r h) sound next free few =
    let clear = clear_of (write_lines (view_of a) r h) free in
    changed_write a sound r h next (leb-false (length a.origin.layout.records) r clear.0) (waits (phase_of a r h) clear.1.1.0 clear.1.1.1.0)
changed_ask a (Leave r h) sound next free few =
    let clear = clear_of (leave_lines (view_of a) r h) free in
    changed_leave a sound r h next (leb-false (length a.origin.layout.records) r clear.0) few
changed_ask a (Give r to seats) sound next free few =
    let clear = clear_of (give_lines (view_of a) r to seats) free in
    changed_give a sound r to seats (leb-false (length a.origin.layout.records) r clear.0) (leb-false a.sites to clear.1.0) few
changed_ask a (Help r) sound next free few =
    let clear = clear_of (help_lines (view_of a) r) free in
    let there = some_of (plan_of (view_of a) r) clear.1.0 in
    let is : planned (plan_of (view_of a) r) ≡ there.0 = ap planned there.1 in
    changed_give a sound r (planned (plan_of (view_of a) r)).to (planned (plan_of (view_of a) r)).seats (leb-false (length a.origin.layout.records) r clear.0)
    (subst (λ (x : ℕ). x < a.sites) (sym (ap (λ (q : Plan). q.to) is)) (plan_of-fits (view_of a) r there.0 sound.site_there there.1).there)
    few

-- an ask that nothing refuses changes what its operation tells; a cell names a site below 100
pub changed_asked : (a : Account) → IsReached a → a.sites ≤ 100 → (ask : Ask) → reason (view_of a) (AskCall ask) ≡ None → change_between a (after a (AskCall ask)) ≡ operation_change (view_of a) (operation_of (view_of a) ask)
changed_asked a is few ask free =
    let sound = sound_reached a is in
    let done : after a (AskCall ask) ≡ advanced a (AskCall ask) = ap (λ o. unless_refused o a (advanced a (AskCall ask))) free in
    ap (change_between a) done ∙ changed_ask a ask sound (subst IsSound done (sound_after a (AskCall ask) sound)) free few

-- ---- what changes nothing

pub changed_nothing : (a : Account) → IsReached a → IsEmpty (change_between a a)
changed_nothing a is =
    let sound = sound_reached a is in
    record {
      no_cells = none_risen (slots_of a) (slots_of a) (λ r slot. omega arith) (places a.origin.layout);
      no_put = none_put (phase_in (sessions_of a)) (sessions_of a) (stored_of a sound);
      none_removed = none_gone (phase_in (sessions_of a)) (sessions_of a) (stored_of a sound);
    }

pub changed_refused : (a : Account) → IsReached a → (call : Call) (refusal : Refusal) → reason (view_of a) call ≡ Some refusal → IsEmpty (change_between a (after a call))
changed_refused a is call refusal e =
    let stays : after a call ≡ a = ap (λ o. unless_refused o a (advanced a call)) e in
    subst (λ (b : Account). IsEmpty (change_between a b)) (sym stays) (changed_nothing a is)

pub changed_merged : (a : Account) → IsReached a → (rows : List Row) → KeepsSessions (change_between a (hears a rows))
changed_merged a is rows =
    let sound = sound_reached a is in
    record {
      no_put = none_put (phase_in (sessions_of a)) (sessions_of a) (stored_of a sound);
      none_removed = none_gone (phase_in (sessions_of a)) (sessions_of a) (stored_of a sound);
    }
