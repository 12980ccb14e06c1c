-- The sessions of a content after the edit of a change.
use Rattle.std.proofs.Common.{◌≡◌, inl, inr, ℕ, ◌+◌, ◌<◌, ◌≤◌, ◌^◌, true, false, ◌==◌, nat_lt, cond, List, [], ◌∷◌, ◌++◌, map, Option, Some, None, is_some, IsTrue, refl, sym, ap, subst, ◌∙◌, arith}
use Rattle.std.specs.List.{AllByRecursion}
use Rattle.std.proofs.lemmas.Bool.{cases_Bool, cases_lt}
use Rattle.std.proofs.lemmas.Bool.Decides.{nat_tests}
use Rattle.sqlite_rules.specs.Lists.{Has}
use Rattle.session_list.specs.declared.session.Phase.{Phase}
use Rattle.session_list.specs.declared.session.Session.{Session}
use Rattle.session_list.specs.Sessions as lists
use Rattle.admission_core.specs.declared.change.SessionChange.{SessionChange}
use Rattle.admission_core.specs.declared.change.SessionChange.TheVariants as changes
use Rattle.store_rows.specs.declared.content.StoredSession.{StoredSession}
use Rattle.store_rows.specs.Rows.{Stored, session_before}
use Rattle.store_rows.specs.Sorted.{IsRising, put}
use Rattle.store_rows.specs.Changes.{edited, without}
use Rattle.store_rows.specs.Steps.{HasFreePlace, IsStorable}
use Rattle.store_content.specs.Content.{IsOnce, IsPlaced, greatest_place, most_places, place_in, session_of}
use Rattle.durable_keeper.specs.Keeping.{changed_sessions, with_session}
use Rattle.store_content.specs.Known.{HasPlace, same_key}
use Rattle.store_content.specs.Plan.{IsHeld, LacksPlace, edit_of, place_for}
use Rattle.store_content.proofs.EditLemmas.{new_last, place_found, put_for}
use Rattle.store_content.proofs.PlaceLemmas.{all_append, all_below, all_without, drops, is_present, once_append, once_restage, once_without, phase_stage, place_behind, placed_restage, put_there, rise_append, rise_restage, rise_without, same_place, sessions_append, sessions_restage, sessions_without, without_none}

-- ---- a list of sessions that can be

pub record AreSessions (ss : List StoredSession) : Type 0 where
  pub rising : IsRising session_before ss
  pub once : IsOnce ss
  pub placed : AllByRecursion IsPlaced ss

there_is : (s : StoredSession) (ss : List StoredSession) → AreSessions ss → place_in ss s.r s.h ≡ Some s.place → AreSessions (put session_before s (without s.r s.h ss))
there_is s ss is found = subst AreSessions (sym (put_there s ss is.rising is.once found)) (record {
  rising = rise_restage s.stage s.r s.h ss is.rising;
  once = once_restage s.stage s.r s.h ss is.once;
  placed = placed_restage s.stage s.r s.h ss is.placed;
})

new_is : (s : StoredSession) (ss : List StoredSession) → AreSessions ss → place_in ss s.r s.h ≡ None → s.place ≡ greatest_place ss + 1 → s.place ≤ most_places → s.r < 2 ^ 16 → AreSessions (put session_before s (without s.r s.h ss))
new_is s ss is none next small fits =
    let below = all_below ss s.place (omega arith) in
    subst AreSessions (sym (new_last s ss none next)) (record {
      rising = rise_append s ss below is.rising;
      once = once_append s ss is.once none;
      placed = all_append IsPlaced s ss (record { record_fits = fits; given = omega arith; small = small }) is.placed;
    })

drop_is : (r h : ℕ) (ss : List StoredSession) → AreSessions ss → AreSessions (without r h ss)
drop_is r h ss is = record { rising = rise_without ss r h is.rising; once = once_without ss r h is.once; placed = all_without IsPlaced ss r h is.placed }

-- there is room for a new one, where the greatest place is not the last one
has_room : (s : Session) (it : Stored) → (LacksPlace (Some (changes.Put s)) it → ⊥) → place_in it.sessions s.r s.h ≡ None → greatest_place it.sessions + 1 ≤ most_places
has_room s it room none = elim (cases_lt (greatest_place it.sessions) most_places) [
  | inl low ↦ omega arith
  | inr high ↦ absurd (room (none, high))
]

pub edit_is : (c : Option SessionChange) (it : Stored) → (LacksPlace c it → ⊥) → AreSessions it.sessions → IsHeld c → AreSessions (edited (edit_of c it) it.sessions)
edit_is None it room is held = is
edit_is (Some (changes.Put s)) it room is held = elim (place_found s it) [
  | inl found ↦ there_is (put_for s it) it.sessions is found
  | inr new ↦ let small = has_room s it room new.0 in new_is (put_for s it) it.sessions is new.0 new.1 (subst (λ n. n ≤ most_places) (sym new.1) small) held.0
]
edit_is (Some (changes.Removed s)) it room is held = drop_is s.r s.h it.sessions is

-- ---- as sessions of a durable part

put_present : (s : Session) (ss : List Session) → is_some (lists.phase_in ss s.r s.h) ≡ true → with_session s ss ≡ lists.with_phase ss s.r s.h s.phase
put_present s ss e = ap (λ b. cond b (lists.with_phase ss s.r s.h s.phase) (ss ++ s ∷ [])) e

put_absent : (s : Session) (ss : List Session) → is_some (lists.phase_in ss s.r s.h) ≡ false → with_session s ss ≡ ss ++ s ∷ []
put_absent s ss e = ap (λ b. cond b (lists.with_phase ss s.r s.h s.phase) (ss ++ s ∷ [])) e

in_phase : Session → Phase → Session
in_phase s p = record { r = s.r; h = s.h; phase = p }

same_session : (s : Session) (it : Stored) → session_of (put_for s it) ≡ s
unfolding in_phase
same_session s it = ap (in_phase s) (phase_stage s.phase)

pub sessions_law : (c : Option SessionChange) (it : Stored) → AreSessions it.sessions → map session_of (edited (edit_of c it) it.sessions) ≡ changed_sessions c (map session_of it.sessions)
sessions_law None it is = refl
sessions_law (Some (changes.Put s)) it is = elim (place_found s it) [
  | inl found ↦
      ap (map session_of) (put_there (put_for s it) it.sessions is.rising is.once found) ∙ sessions_restage s.phase s.r s.h it.sessions
      ∙ sym (put_present s (map session_of it.sessions) (is_present it.sessions s.r s.h ∙ ap is_some found))
  | inr new ↦
      ap (map session_of) (new_last (put_for s it) it.sessions new.0 new.1) ∙ sessions_append (put_for s it) it.sessions
      ∙ ap (λ x. map session_of it.sessions ++ x ∷ []) (same_session s it)
      ∙ sym (put_absent s (map session_of it.sessions) (is_present it.sessions s.r s.h ∙ ap is_some new.0))
]
sessions_law (Some (changes.Removed s)) it is = sessions_without s.r s.h it.sessions

-- ---- the place of an edit is free

later_other : (t : StoredSession) (ss : List StoredSession) (p : ℕ) → t.place ≡ p → AllByRecursion (λ y. IsTrue (session_before t y)) ss → AllByRecursion (λ y. (y.place == p) ≡ false) ss
later_other t [] p e all = tt
later_other t (x ∷ xs) p e all =
    let first : nat_lt t.place x.place ≡ true = all.0 in
    let other : (x.place == p) ≡ false = grind (arith, nat_tests) in
    (other, later_other t xs p e all.1)

others_apart : (ss : List StoredSession) (r h p : ℕ) → IsRising session_before ss → IsOnce ss → place_in ss r h ≡ Some p → AllByRecursion (λ y. (y.place == p) ≡ false) (without r h ss)
others_apart [] r h p up once found = tt
others_apart (t ∷ ts) r h p up once found = elim (cases_Bool (same_key (r, h) (t.r, t.h))) [
  | inl e ↦
      let is : Some t.place ≡ Some p = rw e at found in
      let same : t.place ≡ p = cc in
      subst (AllByRecursion (λ y. (y.place == p) ≡ false)) (sym (drops t ts r h true e ∙ without_none ts r h (same_place t ts r h e once.0))) (later_other t ts p same up.0)
  | inr e ↦
      let later : place_in ts r h ≡ Some p = rw e at found in
      let first = place_behind t ts r h p up.0 later in
      let other : (t.place == p) ≡ false = grind (arith, nat_tests) in
      subst (AllByRecursion (λ y. (y.place == p) ≡ false)) (sym (drops t ts r h false e)) (other, others_apart ts r h p up.1 once.1 later)
]

below_apart : (ss : List StoredSession) (n : ℕ) → greatest_place ss < n → AllByRecursion (λ y. (y.place == n) ≡ false) ss
below_apart [] n low = tt
below_apart (t ∷ ts) n low =
    let first : t.place < n = omega arith in
    let other : (t.place == n) ≡ false = grind (arith, nat_tests) in
    (other, below_apart ts n (omega arith))

has_all : (P : StoredSession → Type 0) (ss : List StoredSession) (x : StoredSession) → AllByRecursion P ss → Has ss x → P x
has_all P [] x all h = absurd h
has_all P (t ∷ ts) x all (inl same) = subst P (sym same) all.0
has_all P (t ∷ ts) x all (inr later) = has_all P ts x all.1 later

free : (s : StoredSession) (ss : List StoredSession) → AreSessions ss → HasPlace s ss → AllByRecursion (λ y. (y.place == s.place) ≡ false) (without s.r s.h ss)
free s ss is (inl found) = others_apart ss s.r s.h s.place is.rising is.once found
free s ss is (inr new) = all_without (λ y. (y.place == s.place) ≡ false) ss s.r s.h (below_apart ss s.place (omega (arith, new.1)))

pub place_free : (c : Option SessionChange) (it : Stored) → AreSessions it.sessions → HasFreePlace (edit_of c it) it.sessions
place_free None it is = tt
place_free (Some (changes.Put s)) it is = λ x h. has_all (λ y. (y.place == place_for s it) ≡ false) (without s.r s.h it.sessions) x (free (put_for s it) it.sessions is (place_found s it)) h
place_free (Some (changes.Removed s)) it is = tt

-- ---- its numbers are such as a store takes

place_small : (ss : List StoredSession) (r h p : ℕ) → AllByRecursion IsPlaced ss → place_in ss r h ≡ Some p → p ≤ most_places
place_small [] r h p all found = cc
place_small (t ∷ ts) r h p all found = elim (cases_Bool (same_key (r, h) (t.r, t.h))) [
  | inl e ↦
      let is : Some t.place ≡ Some p = rw e at found in
      let same : t.place ≡ p = cc in
      subst (λ n. n ≤ most_places) same all.0.small
  | inr e ↦ place_small ts r h p all.1 (rw e at found)
]

pub edit_storable : (c : Option SessionChange) (it : Stored) → (LacksPlace c it → ⊥) → AreSessions it.sessions → IsHeld c → IsStorable (edit_of c it)
edit_storable None it room is held = tt
edit_storable (Some (changes.Put s)) it room is held =
    let small : place_for s it ≤ most_places = elim (place_found s it) [
      | inl found ↦ place_small it.sessions s.r s.h (place_for s it) is.placed found
      | inr new ↦ subst (λ n. n ≤ most_places) (sym new.1) (has_room s it room new.0)
    ] in
    let low : s.h ≤ 1000000000000 = held.1 in
    (omega arith, omega arith)
edit_storable (Some (changes.Removed s)) it room is held = let low : s.h ≤ 1000000000000 = held.1 in omega arith
