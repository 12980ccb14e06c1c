-- What a stop leaves, and the account that begins from it.
use Rattle.std.proofs.Common.{◌≡◌, ◌≢◌, ℕ, ◌+◌, ◌<◌, ◌≤◌, ◌⊎◌, inl, inr, true, false, cond, List, [], ◌∷◌, length, map, Option, Some, None, refl, sym, ap, subst, ◌∙◌, arith}
use Rattle.std.proofs.lemmas.Bool.{cases_eq, cases_Bool, cond-true, cond-false}
use Rattle.merge_core.specs.declared.cell.Cell.{Cell}
use Rattle.merge_core.specs.declared.cell.Cell.TheVariants.{Out, Taken, Ann, Fin}
use Rattle.merge_core.specs.Layout.{shape_of}
use Rattle.merge_core.specs.Rows.{grant, start_counter}
use Rattle.session_list.specs.declared.session.Phase.{Phase}
use Rattle.admission_model.specs.Account.{Account, Key, begin, seats_in, is_key, key_of, session_if, present, occurs, arrivals, phase_of, sessions_of, session_total, own, weight, writers}
use Rattle.session_list.specs.Sessions.{phase_in}
use Rattle.merge_core.specs.Changes.{keeps_counter}
use Rattle.admission_model.specs.Knowledge.{told, known, durable_part, resumed, grown}
use Rattle.admission_model.specs.View.{view_of, gained, spent}
use Rattle.admission_model.specs.Sound.{IsBalanced, IsSound}
use Rattle.admission_model.specs.Laws.{ShowTheSame, KeepTheSame}
use Rattle.merge_core.specs.Sums.{total_others}
use Rattle.merge_core.proofs.SumLemmas.{total_others_same}
use Rattle.admission_model.proofs.KeyLemmas.{is_key-true}
use Rattle.admission_model.proofs.CounterLemmas.{known_own, known_other, gained_own, spent_own}
use Rattle.admission_model.proofs.RowLemmas.{FitsRow-along}
use Rattle.admission_model.proofs.HeardLemmas.{known_fits, kept_yes, kept_no, kept_row, FitsRow-kept, sound_grown}

-- the phase of a holder depends on its numbers alone
same_phase : (phase : ℕ → ℕ → Option Phase) (r h : ℕ) (k : Key) → is_key r h k.r k.h ≡ true → phase r h ≡ phase k.r k.h
same_phase phase r h k e =
    let same = is_key-true r h k.r k.h e in
    ap (λ x. phase x h) same.0 ∙ ap (λ x. phase k.r x) same.1

stored_none : (phase : ℕ → ℕ → Option Phase) (r h : ℕ) (ks : List Key) → phase r h ≡ None → phase_in (present phase ks) r h ≡ None
stored_none phase r h [] none = refl
stored_none phase r h (k ∷ ks) none = at (phase k.r k.h) refl (stored_none phase r h ks none)
  where
    at : (o : Option Phase) → phase k.r k.h ≡ o → phase_in (present phase ks) r h ≡ None → phase_in (session_if k o (present phase ks)) r h ≡ None
    at None e earlier = earlier
    at (Some p) e earlier = here (cases_Bool (is_key r h k.r k.h))
      where
        here : (is_key r h k.r k.h ≡ true) ⊎ (is_key r h k.r k.h ≡ false) → cond (is_key r h k.r k.h) (Some p) (phase_in (present phase ks) r h) ≡ None
        here (inl t) =
            let clash : ◌≡◌ {A = Option Phase} None (Some p) = sym none ∙ (same_phase phase r h k t ∙ e) in cc
        here (inr f) = cond-false (is_key r h k.r k.h) (Some p) (phase_in (present phase ks) r h) f ∙ earlier

stored_some : (phase : ℕ → ℕ → Option Phase) (r h : ℕ) (p : Phase) (ks : List Key) → phase r h ≡ Some p → 1 ≤ occurs r h ks → phase_in (present phase ks) r h ≡ Some p
stored_some phase r h p [] some listed = absurd (omega arith)
stored_some phase r h p (k ∷ ks) some listed = at (phase k.r k.h) refl (cases_Bool (is_key r h k.r k.h)) (stored_some phase r h p ks some)
  where
    at : (o : Option Phase) → phase k.r k.h ≡ o → (is_key r h k.r k.h ≡ true) ⊎ (is_key r h k.r k.h ≡ false) → (1 ≤ occurs r h ks → phase_in (present phase ks) r h ≡ Some p) → phase_in (session_if k o (present phase ks)) r h ≡ Some p
    at None e (inl t) earlier =
        let clash : ◌≡◌ {A = Option Phase} None (Some p) = sym e ∙ (sym (same_phase phase r h k t) ∙ some) in cc
    at None e (inr f) earlier = earlier (omega (arith, cond-false {A = ℕ} (is_key r h k.r k.h) 1 0 f))
    at (Some q) e (inl t) earlier =
        cond-true (is_key r h k.r k.h) (Some q) (phase_in (present phase ks) r h) t ∙ (sym e ∙ (sym (same_phase phase r h k t) ∙ some))
    at (Some q) e (inr f) earlier =
        cond-false (is_key r h k.r k.h) (Some q) (phase_in (present phase ks) r h) f ∙ earlier (omega (arith, cond-false {A = ℕ} (is_key r h k.r k.h) 1 0 f))

listed_again : (phase : ℕ → ℕ → Option Phase) (r h : ℕ) (p : Phase) (ks : List Key) → phase r h ≡ Some p → occurs r h (map key_of (present phase ks)) ≡ occurs r h ks
listed_again phase r h p [] some = refl
listed_again phase r h p (k ∷ ks) some = at (phase k.r k.h) refl (cases_Bool (is_key r h k.r k.h)) (listed_again phase r h p ks some)
  where
    at : (o : Option Phase) → phase k.r k.h ≡ o → (is_key r h k.r k.h ≡ true) ⊎ (is_key r h k.r k.h ≡ false) → occurs r h (map key_of (present phase ks)) ≡ occurs r h ks → occurs r h (map key_of (session_if k o (present phase ks))) ≡ occurs r h (k ∷ ks)
    at None e (inl t) earlier =
        let clash : ◌≡◌ {A = Option Phase} None (Some p) = sym e ∙ (sym (same_phase phase r h k t) ∙ some) in cc
    at None e (inr f) earlier = omega (arith, cond-false {A = ℕ} (is_key r h k.r k.h) 1 0 f)
    at (Some q) e other earlier = omega arith

present_again : (phase : ℕ → ℕ → Option Phase) (ks : List Key) → present phase (map key_of (present phase ks)) ≡ present phase ks
present_again phase [] = refl
present_again phase (k ∷ ks) = at (phase k.r k.h) refl (present_again phase ks)
  where
    at : (o : Option Phase) → phase k.r k.h ≡ o → present phase (map key_of (present phase ks)) ≡ present phase ks → present phase (map key_of (session_if k o (present phase ks))) ≡ session_if k o (present phase ks)
    at None e earlier = earlier
    at (Some q) e earlier =
        ap (λ x. session_if k x (present phase (map key_of (present phase ks)))) e
        ∙ ap (λ rest. record { r = k.r; h = k.h; phase = q } ∷ rest) earlier

pub resumed_phase : (a : Account) (n : ℕ) → IsSound a → (r h : ℕ) → phase_of (begin (resumed n a)) r h ≡ phase_of a r h
resumed_phase a n sound r h = at (phase_of a r h) refl
  where
    at : (o : Option Phase) → phase_of a r h ≡ o → phase_in (sessions_of a) r h ≡ phase_of a r h
    at None e = stored_none (phase_of a) r h (arrivals a.origin a.done) e ∙ sym e
    at (Some p) e = stored_some (phase_of a) r h p (arrivals a.origin a.done) e (omega (arith, sound.listed_once r h p e)) ∙ sym e

resumed_sessions : (a : Account) (n : ℕ) → IsSound a → sessions_of (begin (resumed n a)) ≡ sessions_of a
resumed_sessions a n sound =
    let same : phase_of (begin (resumed n a)) ≡ phase_of a = λ i r h. resumed_phase a n sound r h i in
    ap (λ phase. present phase (map key_of (sessions_of a))) same ∙ present_again (phase_of a) (arrivals a.origin a.done)

resumed_own : (a : Account) (n r : ℕ) (cell : Cell) → own (begin (resumed n a)) r cell ≡ own a r cell
resumed_own a n r cell = kept_yes a.origin (known a) r a.origin.site cell (kept_row a.origin.site cell) ∙ known_own a r cell

-- what is stored of another site's row is what the site was told when it was started again
resumed_told : (a : Account) (n r s : ℕ) (cell : Cell) → s ≢ a.origin.site → told (begin (resumed n a)) r s cell ≡ told (grown n a) r s cell
resumed_told a n r s cell apart = at (cases_Bool (keeps_counter a.origin.site s cell))
  where
    at : (keeps_counter a.origin.site s cell ≡ true) ⊎ (keeps_counter a.origin.site s cell ≡ false) → told (begin (resumed n a)) r s cell ≡ told (grown n a) r s cell
    at (inl e) =
        kept_yes (resumed n a) (durable_part a).counters r s cell e
        ∙ (kept_yes a.origin (known a) r s cell e
        ∙ (known_other a r s cell apart ∙ sym (kept_yes a.origin (told a) r s cell e)))
    at (inr e) = kept_no (resumed n a) (durable_part a).counters r s cell e ∙ sym (kept_no a.origin (told a) r s cell e)

resumed_known : (a : Account) (n r s : ℕ) (cell : Cell) → known (begin (resumed n a)) r s cell ≡ known (grown n a) r s cell
resumed_known a n r s cell = at (cases_eq s a.origin.site)
  where
    at : (s ≡ a.origin.site) ⊎ (s ≡ a.origin.site → ⊥) → known (begin (resumed n a)) r s cell ≡ known (grown n a) r s cell
    at (inl e) =
        subst (λ (x : ℕ). known (begin (resumed n a)) r x cell ≡ known (grown n a) r x cell) (sym e)
        (known_own (begin (resumed n a)) r cell ∙ (resumed_own a n r cell ∙ sym (known_own (grown n a) r cell)))
    at (inr ne) = known_other (begin (resumed n a)) r s cell ne ∙ (resumed_told a n r s cell ne ∙ sym (known_other (grown n a) r s cell ne))

-- the account that begins from what a stop left shows what the account does that was started again
pub is_resumed : (a : Account) (n : ℕ) → IsSound a → ShowTheSame (begin (resumed n a)) (grown n a)
is_resumed a n sound = record {
  layout = refl;
  site = refl;
  phases = resumed_phase a n sound;
  order_kept = resumed_sessions a n sound;
  counters = resumed_known a n;
}

pub keeps_durable : (a : Account) (n : ℕ) → KeepTheSame (durable_part (grown n a)) (durable_part a)
keeps_durable a n = record { counters = λ r s cell. at r s cell (cases_Bool (keeps_counter a.origin.site s cell)); sessions = refl }
  where
    same : (r s : ℕ) (cell : Cell) → keeps_counter a.origin.site s cell ≡ true → (s ≡ a.origin.site) ⊎ (s ≡ a.origin.site → ⊥) → known (grown n a) r s cell ≡ known a r s cell
    same r s cell e (inl here) =
        subst (λ (x : ℕ). known (grown n a) r x cell ≡ known a r x cell) (sym here) (known_own (grown n a) r cell ∙ sym (known_own a r cell))
    same r s cell e (inr apart) =
        known_other (grown n a) r s cell apart ∙ (kept_yes a.origin (told a) r s cell e ∙ sym (known_other a r s cell apart))

    at : (r s : ℕ) (cell : Cell) → (keeps_counter a.origin.site s cell ≡ true) ⊎ (keeps_counter a.origin.site s cell ≡ false) → (durable_part (grown n a)).counters r s cell ≡ (durable_part a).counters r s cell
    at r s cell (inl e) =
        kept_yes a.origin (known (grown n a)) r s cell e ∙ (same r s cell e (cases_eq s a.origin.site) ∙ sym (kept_yes a.origin (known a) r s cell e))
    at r s cell (inr e) = kept_no a.origin (known (grown n a)) r s cell e ∙ sym (kept_no a.origin (known a) r s cell e)

-- rights by what a site did and was told
rights_sums : (a : Account) (r : ℕ) → a.origin.site < a.sites → (gained (view_of a) r ≡ own a r (Out a.origin.site) + total_others a.sites a.origin.site (λ j. told a r j (Out a.origin.site))) × (spent (view_of a) r ≡ total_others a.sites a.origin.site (λ j. own a r (Out j)) + own a r Taken)
rights_sums a r below = (gained_own a r below, spent_own a r)

resumed_balanced : (a : Account) (n : ℕ) → a.sites ≤ n → IsSound a → (r : ℕ) → IsBalanced (begin (resumed n a)) r
resumed_balanced a n more sound r =
    let b = begin (resumed n a) in
    let c = grown n a in
    let i = a.origin.site in
    let next = sound_grown a n more sound in
    let now = rights_sums b r next.site_there in
    let later = rights_sums c r next.site_there in
    record {
      affordable = omega (
        arith,
        (next.balanced r).affordable,
        now.0,
        now.1,
        later.0,
        later.1,
        resumed_own a n r Taken,
        resumed_own a n r (Out i),
        total_others_same n i (λ j. own b r (Out j)) (λ j. own c r (Out j)) (λ j below apart. resumed_own a n r (Out j)),
        total_others_same n i (λ j. told b r j (Out i)) (λ j. told c r j (Out i)) (λ j below apart. resumed_told a n r j (Out i) apart),
      );
      seats = omega (
        arith,
        (sound.balanced r).seats,
        resumed_own a n r Taken,
        resumed_own a n r (Out i),
        ap (session_total (weight (seats_in a.origin.layout r)) r) (resumed_sessions a n sound),
      );
      writers = omega (
        arith,
        (sound.balanced r).writers,
        resumed_own a n r Ann,
        resumed_own a n r Fin,
        ap (session_total writers r) (resumed_sessions a n sound),
      );
      few_writers = omega (arith, (sound.balanced r).few_writers, ap (session_total writers r) (resumed_sessions a n sound));
      fits = FitsRow-along (grant (shape_of a.origin.layout) r i) i (own a r) (own b r) (resumed_own a n r) (sound.balanced r).fits;
    }

-- a site may begin again from what a stop leaves of it, under its layout or a later one
pub sound_resumed : (a : Account) (n : ℕ) → a.sites ≤ n → IsSound a → IsSound (begin (resumed n a))
sound_resumed a n more sound = record {
  site_there = omega (arith, sound.site_there);
  listed_once = λ r h p there.
      let before = sym (resumed_phase a n sound r h) ∙ there in
      listed_again (phase_of a) r h p (arrivals a.origin a.done) before ∙ sound.listed_once r h p before;
  record_there = λ r h p there. sound.record_there r h p (sym (resumed_phase a n sound r h) ∙ there);
  holder_there = λ r h p there. sound.holder_there r h p (sym (resumed_phase a n sound r h) ∙ there);
  balanced = resumed_balanced a n more sound;
  told_fits = λ r s. FitsRow-kept (resumed n a) (durable_part a).counters r s (FitsRow-kept a.origin (known a) r s (known_fits a sound r s));
  told_after_done = λ r cell. omega (arith, kept_yes (resumed n a) (durable_part a).counters r a.origin.site cell (kept_row a.origin.site cell));
  no_others = record {
    none_sent = λ r j past. omega (arith, resumed_own a n r (Out j), sound.no_others.none_sent r j (omega arith));
    none_told = λ r s cell past.
        omega (arith, resumed_told a n r s cell (λ e. absurd (omega (arith, sound.site_there))), next.no_others.none_told r s cell past);
    none_told_sent = λ r s j past. at r s j past (cases_eq s a.origin.site);
  };
  no_other_records = record {
    none_done = λ r cell past. resumed_own a n r cell ∙ sound.no_other_records.none_done r cell past;
    none_heard = λ r s cell past. none_heard r s cell past (cases_eq s a.origin.site);
  };
}
  where
    next : IsSound (grown n a)
    next = sound_grown a n more sound

    none_heard : (r s : ℕ) (cell : Cell) → length a.origin.layout.records ≤ r → (s ≡ a.origin.site) ⊎ (s ≡ a.origin.site → ⊥) → told (begin (resumed n a)) r s cell ≡ 0
    none_heard r s cell past (inl e) =
        subst (λ (x : ℕ). told (begin (resumed n a)) r x cell ≡ 0) (sym e)
        (kept_yes (resumed n a) (durable_part a).counters r a.origin.site cell (kept_row a.origin.site cell)
        ∙ (resumed_own a n r cell ∙ sound.no_other_records.none_done r cell past))
    none_heard r s cell past (inr ne) = resumed_told a n r s cell ne ∙ next.no_other_records.none_heard r s cell past

    at : (r s j : ℕ) → n ≤ j → (s ≡ a.origin.site) ⊎ (s ≡ a.origin.site → ⊥) → told (begin (resumed n a)) r s (Out j) ≤ start_counter (shape_of a.origin.layout) r s (Out j)
    at r s j past (inl e) =
        subst (λ (x : ℕ). told (begin (resumed n a)) r x (Out j) ≤ start_counter (shape_of a.origin.layout) r x (Out j)) (sym e)
        (omega (arith, kept_yes (resumed n a) (durable_part a).counters r a.origin.site (Out j) (kept_row a.origin.site (Out j)), resumed_own a n r (Out j), sound.no_others.none_sent r j (omega arith)))
    at r s j past (inr ne) = omega (arith, resumed_told a n r s (Out j) ne, next.no_others.none_told_sent r s j past)
