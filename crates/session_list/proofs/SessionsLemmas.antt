-- What each change of a list of sessions does to the phases in it, and when a pair stands once.
use Rattle.std.proofs.Common.{◌+◌, ◌<◌, length, get_or, take, drop, drop-cons, add-one, take-append-drop, ◌≡◌, ℕ, Bool, true, false, not, ◌==◌, ◌&&◌, if◌then◌else◌, List, [], ◌∷◌, ◌++◌, Option, Some, None, IsSome, refl, sym, ap, ◌∙◌, subst, true≢false}
use Rattle.std.specs.Cmp.{IsEquivalence, on_equiv, and_equiv, nat_eq_equiv}
use Rattle.std.specs.Option.{option_map}
use Rattle.std.proofs.lemmas.Option.{none-some}
use Rattle.session_list.specs.declared.session.Phase.{Phase}
use Rattle.session_list.specs.declared.session.Session.{Session}
use Rattle.session_list.specs.Sessions.{is_of, phase_in, with_phase, without, IsOnce}
use Rattle.session_list.specs.Kept.{same_key}

-- to be of the same record and holder is an equivalence
pub same_key_laws : IsEquivalence same_key
same_key_laws = and_equiv (on_equiv (λ (p : ℕ × ℕ). p.0) nat_eq_equiv) (on_equiv (λ (p : ℕ × ℕ). p.1) nat_eq_equiv)

-- how a look-up goes on at a session
phase_at : (t : Session) (ts : List Session) (q g : ℕ) (b : Bool) → is_of q g t ≡ b → phase_in (t ∷ ts) q g ≡ (if b then Some t.phase else phase_in ts q g)
phase_at t ts q g b e = ap (λ c. if c then Some t.phase else phase_in ts q g) e

-- where a look-up finds nothing, it finds nothing at the first session and after it
absent_parts : (t : Session) (ts : List Session) (r h : ℕ) → phase_in (t ∷ ts) r h ≡ None → (is_of r h t ≡ false) × (phase_in ts r h ≡ None)
absent_parts t ts r h absent = by (is_of r h t) refl
  where
    by : (b : Bool) → is_of r h t ≡ b → (is_of r h t ≡ false) × (phase_in ts r h ≡ None)
    by true e = absurd (none-some t.phase (sym absent ∙ phase_at t ts r h true e))
    by false e = (e, sym (phase_at t ts r h false e) ∙ absent)

-- a session that one pair is of is of another exactly if the pairs are the same
other_pair : (q g r h : ℕ) (t : Session) → is_of q g t ≡ true → same_key (q, g) (r, h) ≡ is_of r h t
other_pair q g r h t e = same_key_laws.congr (q, g) (t.r, t.h) (r, h) e ∙ same_key_laws.symm (t.r, t.h) (r, h)

-- one more session at the end
pub phase_in-push : (ss : List Session) (s : Session) (q g : ℕ) → phase_in ss s.r s.h ≡ None → phase_in (ss ++ s ∷ []) q g ≡ (if (q == s.r) && (g == s.h) then Some s.phase else phase_in ss q g)
phase_in-push [] s q g absent = refl
phase_in-push (t ∷ ts) s q g absent = let parts = absent_parts t ts s.r s.h absent in by parts.0 (phase_in-push ts s q g parts.1) (is_of q g t) refl
  where
    by : is_of s.r s.h t ≡ false → phase_in (ts ++ s ∷ []) q g ≡ (if same_key (q, g) (s.r, s.h) then Some s.phase else phase_in ts q g)
        → (b : Bool) → is_of q g t ≡ b → phase_in (t ∷ ts ++ s ∷ []) q g ≡ (if same_key (q, g) (s.r, s.h) then Some s.phase else phase_in (t ∷ ts) q g)
    by not_here rest true e =
        let apart : same_key (q, g) (s.r, s.h) ≡ false = other_pair q g s.r s.h t e ∙ not_here in
        phase_at t (ts ++ s ∷ []) q g true e ∙ sym (phase_at t ts q g true e) ∙ sym (ap (λ b. if b then Some s.phase else phase_in (t ∷ ts) q g) apart)
    by not_here rest false e =
        phase_at t (ts ++ s ∷ []) q g false e ∙ rest
        ∙ sym (ap (λ o. if same_key (q, g) (s.r, s.h) then Some s.phase else o) (phase_at t ts q g false e))

-- a session with another phase, where it is of a pair
abbrev changed : ℕ → ℕ → Phase → Session → Session
changed r h p s = if is_of r h s then record s { phase = p } else s

-- the phases after a change of one, wherever it is
phase_in-changed : (ss : List Session) (r h : ℕ) (p : Phase) (q g : ℕ) → phase_in (with_phase ss r h p) q g ≡ (if same_key (q, g) (r, h) then option_map (λ _. p) (phase_in ss q g) else phase_in ss q g)
phase_in-changed [] r h p q g = by (same_key (q, g) (r, h))
  where
    by : (b : Bool) → ◌≡◌ {A = Option Phase} None (if b then None else None)
    by true = refl
    by false = refl
phase_in-changed (t ∷ ts) r h p q g = by (phase_in-changed ts r h p q g) (is_of r h t) (is_of q g t) refl refl
  where
    -- the look-up after the change, at the first session as it then is
    start : (b : Bool) → is_of r h t ≡ b → phase_in (with_phase (t ∷ ts) r h p) q g ≡ phase_in ((if b then record t { phase = p } else t) ∷ with_phase ts r h p) q g
    start b e = ap (λ c. phase_in ((if c then record t { phase = p } else t) ∷ with_phase ts r h p) q g) e

    by : phase_in (with_phase ts r h p) q g ≡ (if same_key (q, g) (r, h) then option_map (λ _. p) (phase_in ts q g) else phase_in ts q g)
        → (b c : Bool) → is_of r h t ≡ b → is_of q g t ≡ c → phase_in (with_phase (t ∷ ts) r h p) q g ≡ (if same_key (q, g) (r, h) then option_map (λ _. p) (phase_in (t ∷ ts) q g) else phase_in (t ∷ ts) q g)
    by rest true true e f =
        start true e ∙ phase_at (record t { phase = p }) (with_phase ts r h p) q g true f
        ∙ sym (ap (λ o. if same_key (q, g) (r, h) then option_map (λ _. p) o else o) (phase_at t ts q g true f) ∙ ap (λ b. if b then Some p else Some t.phase) (other_pair q g r h t f ∙ e))
    by rest true false e f =
        start true e ∙ phase_at (record t { phase = p }) (with_phase ts r h p) q g false f ∙ rest
        ∙ sym (ap (λ o. if same_key (q, g) (r, h) then option_map (λ _. p) o else o) (phase_at t ts q g false f))
    by rest false true e f =
        start false e ∙ phase_at t (with_phase ts r h p) q g true f
        ∙ sym (ap (λ o. if same_key (q, g) (r, h) then option_map (λ _. p) o else o) (phase_at t ts q g true f) ∙ ap (λ b. if b then Some p else Some t.phase) (other_pair q g r h t f ∙ e))
    by rest false false e f =
        start false e ∙ phase_at t (with_phase ts r h p) q g false f ∙ rest
        ∙ sym (ap (λ o. if same_key (q, g) (r, h) then option_map (λ _. p) o else o) (phase_at t ts q g false f))

-- the same pair reads the same phase
phase_in-same : (ss : List Session) (q g r h : ℕ) → same_key (q, g) (r, h) ≡ true → phase_in ss q g ≡ phase_in ss r h
phase_in-same [] q g r h e = refl
phase_in-same (t ∷ ts) q g r h e = λ j. if same_key_laws.congr (q, g) (r, h) (t.r, t.h) e j then Some t.phase else phase_in-same ts q g r h e j

-- a change of a session that is there
pub phase_in-with_phase : (ss : List Session) (r h : ℕ) (p : Phase) (q g : ℕ) → IsSome (phase_in ss r h) → phase_in (with_phase ss r h p) q g ≡ (if (q == r) && (g == h) then Some p else phase_in ss q g)
phase_in-with_phase ss r h p q g there = phase_in-changed ss r h p q g ∙ by (same_key (q, g) (r, h)) refl
  where
    found : (o : Option Phase) → IsSome o → option_map (λ _. p) o ≡ Some p
    found None there_not = absurd (true≢false (sym there_not))
    found (Some x) _ = refl

    by : (b : Bool) → same_key (q, g) (r, h) ≡ b → (if same_key (q, g) (r, h) then option_map (λ _. p) (phase_in ss q g) else phase_in ss q g) ≡ (if same_key (q, g) (r, h) then Some p else phase_in ss q g)
    by true e =
        ap (λ b. if b then option_map (λ _. p) (phase_in ss q g) else phase_in ss q g) e
        ∙ ap (option_map (λ _. p)) (phase_in-same ss q g r h e) ∙ found (phase_in ss r h) there
        ∙ sym (ap (λ b. if b then Some p else phase_in ss q g) e)
    by false e = ap (λ b. if b then option_map (λ _. p) (phase_in ss q g) else phase_in ss q g) e ∙ sym (ap (λ b. if b then Some p else phase_in ss q g) e)

-- how a removal goes on at a session
without_at : (t : Session) (ts : List Session) (r h : ℕ) (b : Bool) → is_of r h t ≡ b → without (t ∷ ts) r h ≡ (if b then without ts r h else (t ∷ without ts r h))
without_at t ts r h true e = ap (λ c. if not c then (t ∷ without ts r h) else without ts r h) e
without_at t ts r h false e = ap (λ c. if not c then (t ∷ without ts r h) else without ts r h) e

-- a removal
pub phase_in-without : (ss : List Session) (r h q g : ℕ) → phase_in (without ss r h) q g ≡ (if (q == r) && (g == h) then None else phase_in ss q g)
phase_in-without [] r h q g = by (same_key (q, g) (r, h))
  where
    by : (b : Bool) → ◌≡◌ {A = Option Phase} None (if b then None else None)
    by true = refl
    by false = refl
phase_in-without (t ∷ ts) r h q g = by (phase_in-without ts r h q g) (is_of r h t) (is_of q g t) refl refl
  where
    by : phase_in (without ts r h) q g ≡ (if same_key (q, g) (r, h) then None else phase_in ts q g)
        → (b c : Bool) → is_of r h t ≡ b → is_of q g t ≡ c → phase_in (without (t ∷ ts) r h) q g ≡ (if same_key (q, g) (r, h) then None else phase_in (t ∷ ts) q g)
    by rest true true e f =
        ap (λ l. phase_in l q g) (without_at t ts r h true e) ∙ rest ∙ ap (λ b. if b then None else phase_in ts q g) (other_pair q g r h t f ∙ e)
        ∙ sym (ap (λ b. if b then None else phase_in (t ∷ ts) q g) (other_pair q g r h t f ∙ e))
    by rest true false e f =
        ap (λ l. phase_in l q g) (without_at t ts r h true e) ∙ rest
        ∙ sym (ap (λ o. if same_key (q, g) (r, h) then None else o) (phase_at t ts q g false f))
    by rest false true e f =
        ap (λ l. phase_in l q g) (without_at t ts r h false e) ∙ phase_at t (without ts r h) q g true f ∙ sym (phase_at t ts q g true f)
        ∙ sym (ap (λ b. if b then None else phase_in (t ∷ ts) q g) (other_pair q g r h t f ∙ e))
    by rest false false e f =
        ap (λ l. phase_in l q g) (without_at t ts r h false e) ∙ phase_at t (without ts r h) q g false f ∙ rest
        ∙ sym (ap (λ o. if same_key (q, g) (r, h) then None else o) (phase_at t ts q g false f))

-- the removal of a session that isn't there
pub without-absent : (ss : List Session) (r h : ℕ) → phase_in ss r h ≡ None → without ss r h ≡ ss
without-absent [] r h absent = refl
without-absent (t ∷ ts) r h absent =
    let parts = absent_parts t ts r h absent in
    without_at t ts r h false parts.0 ∙ ap (λ l. t ∷ l) (without-absent ts r h parts.1)

-- a look-up finds a session wherever it stands
found_in : (xs : List Session) (s : Session) (ys : List Session) (r h : ℕ) → is_of r h s ≡ true → phase_in (xs ++ s ∷ ys) r h ≡ None → ⊥
found_in [] s ys r h e absent = none-some s.phase (sym absent ∙ phase_at s ys r h true e)
found_in (t ∷ xs) s ys r h e absent = found_in xs s ys r h e (absent_parts t (xs ++ s ∷ ys) r h absent).1

-- where each pair stands once, none before a session is of its pair
pub IsOnce-before : (xs : List Session) (s : Session) (ys : List Session) → IsOnce (xs ++ s ∷ ys) → phase_in xs s.r s.h ≡ None
IsOnce-before [] s ys once = refl
IsOnce-before (t ∷ xs) s ys once = by (IsOnce-before xs s ys once.1) (is_of s.r s.h t) refl
  where
    by : phase_in xs s.r s.h ≡ None → (b : Bool) → is_of s.r s.h t ≡ b → phase_in (t ∷ xs) s.r s.h ≡ None
    by rest true e = absurd (found_in xs s ys t.r t.h (same_key_laws.symm (t.r, t.h) (s.r, s.h) ∙ e) once.0)
    by rest false e = phase_at t xs s.r s.h false e ∙ rest

-- where one before a session is of its pair, not each pair stands once
pub not_once : (list : List Session) (i : ℕ) (d : Session) → i < length list → (phase_in (take i list) (get_or list i d).r (get_or list i d).h ≡ None → ⊥) → IsOnce list → ⊥
not_once list i d within there once =
    let parts : take i list ++ get_or list i d ∷ drop (i + 1) list ≡ list =
    sym (ap (λ l. take i list ++ l) (drop-cons list i d within) ∙ ap (λ m. take i list ++ get_or list i d ∷ drop m list) (sym (add-one i))) ∙ take-append-drop i list in
    there (IsOnce-before (take i list) (get_or list i d) (drop (i + 1) list) (subst IsOnce (sym parts) once))
