-- What an edit of a session makes of places and of the greatest one.
use Rattle.std.proofs.Common.{◌≡◌, ◌⊎◌, inl, inr, ℕ, ◌+◌, Bool, true, false, ◌==◌, cond, max, List, [], ◌∷◌, ◌++◌, Option, Some, None, unwrap_or, refl, sym, ap, subst, ◌∙◌, arith}
use Rattle.std.specs.List.{IsDistinct}
use Rattle.std.specs.Map.{keys_of, lookup}
use Rattle.std.proofs.lemmas.Bool.{cases_Bool}
use Rattle.std.proofs.lemmas.Bool.Decides.{nat_tests}
use Rattle.session_list.specs.declared.session.Session.{Session}
use Rattle.admission_core.specs.declared.change.SessionChange.{SessionChange}
use Rattle.admission_core.specs.declared.change.SessionChange.TheVariants as changes
use Rattle.store_rows.specs.declared.content.StoredSession.{StoredSession}
use Rattle.store_rows.specs.declared.content.SessionEdit.{SessionEdit}
use Rattle.store_rows.specs.declared.content.SessionEdit.TheVariants.{Put, Dropped}
use Rattle.store_rows.specs.Rows.{Stored, session_before}
use Rattle.store_rows.specs.Sorted.{IsRising, put}
use Rattle.store_rows.specs.Changes.{without}
use Rattle.store_content.specs.Content.{IsOnce, greatest_place, place_in, stage_for}
use Rattle.store_content.specs.Known.{HasPlace, IsPlacedEdit, greatest_value, is_place, same_key}
use Rattle.store_content.specs.Plan.{edit_of, place_for}
use Rattle.store_content.proofs.IndexLemmas.{greatest_known, place_le}
use Rattle.store_content.proofs.PlaceLemmas.{all_below, greatest_append, greatest_restage, greatest_without, once_without, place_append, place_restage, put_last, put_there, without_none}

-- the session that a change puts
abbrev pub put_for : Session → Stored → StoredSession
put_for s it = record { r = s.r; h = s.h; stage = stage_for s.phase; place = place_for s it }

pub place_found : (s : Session) (it : Stored) → HasPlace (put_for s it) it.sessions
place_found s it = by (place_in it.sessions s.r s.h) refl
  where
    by : (o : Option ℕ) → place_in it.sessions s.r s.h ≡ o
        → (place_in it.sessions s.r s.h ≡ Some (unwrap_or (place_in it.sessions s.r s.h) (greatest_place it.sessions + 1)))
        ⊎ ((place_in it.sessions s.r s.h ≡ None) × (unwrap_or (place_in it.sessions s.r s.h) (greatest_place it.sessions + 1) ≡ greatest_place it.sessions + 1))
    by (Some p) e = inl (e ∙ ap (λ o. Some (unwrap_or o (greatest_place it.sessions + 1))) (sym e))
    by None e = inr (e, ap (λ o. unwrap_or o (greatest_place it.sessions + 1)) e)

-- an edit of a change has its place
pub placed_by : (c : Option SessionChange) (it : Stored) (edit : SessionEdit) → edit_of c it ≡ Some edit → IsPlacedEdit edit it.sessions
placed_by None it edit e = cc
placed_by (Some (changes.Put t)) it edit e = let same : Put (put_for t it) ≡ edit = cc in subst (λ x. IsPlacedEdit x it.sessions) same (place_found t it)
placed_by (Some (changes.Removed t)) it edit e = let same : Dropped t.r t.h ≡ edit = cc in subst (λ x. IsPlacedEdit x it.sessions) same tt

-- the sessions after a put, in a simpler form
pub new_last : (s : StoredSession) (ss : List StoredSession) → place_in ss s.r s.h ≡ None → s.place ≡ greatest_place ss + 1 → put session_before s (without s.r s.h ss) ≡ ss ++ s ∷ []
new_last s ss none next = ap (put session_before s) (without_none ss s.r s.h none) ∙ put_last s ss (all_below ss s.place (omega arith))

same_found : (ss : List StoredSession) (r h q g p : ℕ) → place_in ss r h ≡ Some p → (b : Bool) → same_key (r, h) (q, g) ≡ b → cond b (Some p) (place_in ss q g) ≡ place_in ss q g
same_found ss r h q g p found true e =
    let i : r ≡ q = grind (arith, nat_tests) in
    let j : h ≡ g = grind (arith, nat_tests) in
    sym found ∙ ap (λ x. place_in ss x h) i ∙ ap (place_in ss q) j
same_found ss r h q g p found false e = refl

pub put_places : (s : StoredSession) (ss : List StoredSession) → IsRising session_before ss → IsOnce ss → HasPlace s ss → (q g : ℕ)
    → cond (same_key (s.r, s.h) (q, g)) (Some s.place) (place_in ss q g) ≡ place_in (put session_before s (without s.r s.h ss)) q g
put_places s ss up once (inl found) q g =
    same_found ss s.r s.h q g s.place found (same_key (s.r, s.h) (q, g)) refl ∙ sym (place_restage s.stage s.r s.h ss q g) ∙ sym (ap (λ l. place_in l q g) (put_there s ss up once found))
put_places s ss up once (inr new) q g = sym (place_append s ss q g new.0) ∙ sym (ap (λ l. place_in l q g) (new_last s ss new.0 new.1))

pub put_greatest : (s : StoredSession) (ss : List StoredSession) → IsRising session_before ss → IsOnce ss → HasPlace s ss → max (greatest_place ss) s.place ≡ greatest_place (put session_before s (without s.r s.h ss))
put_greatest s ss up once (inl found) =
    let low = place_le ss s.r s.h s.place found in
    let all : max (greatest_place ss) s.place ≡ greatest_place ss = omega arith in
    all ∙ sym (greatest_restage s.stage s.r s.h ss) ∙ sym (ap greatest_place (put_there s ss up once found))
put_greatest s ss up once (inr new) = sym (greatest_append s ss) ∙ sym (ap greatest_place (new_last s ss new.0 new.1))

pub drop_greatest : (es : List ((ℕ × ℕ) × ℕ)) (ss : List StoredSession) (r h : ℕ) → IsOnce ss → IsDistinct same_key (keys_of es)
    → ((q g : ℕ) → lookup (same_key (q, g)) es ≡ place_in (without r h ss) q g)
    → cond (is_place (greatest_place ss) (place_in ss r h)) (greatest_value es) (greatest_place ss) ≡ greatest_place (without r h ss)
drop_greatest es ss r h once unique known = by (place_in ss r h) refl
  where
    found : greatest_value es ≡ greatest_place (without r h ss)
    found = greatest_known es (without r h ss) unique (once_without ss r h once) known

    by : (o : Option ℕ) → place_in ss r h ≡ o → cond (is_place (greatest_place ss) (place_in ss r h)) (greatest_value es) (greatest_place ss) ≡ greatest_place (without r h ss)
    by None e = rw e (sym (ap greatest_place (without_none ss r h e)))
    by (Some p) e = elim (cases_Bool (p == greatest_place ss)) [
      | inl is ↦ rw (e, is) found
      | inr other ↦
          let all = greatest_without ss r h p once e in
          let left : greatest_place ss ≡ greatest_place (without r h ss) = grind (arith, nat_tests) in
          rw (e, other) left
    ]
