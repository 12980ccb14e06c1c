-- Sessions that come, change and go.
use Rattle.std.proofs.Common.{◌≡◌, ℕ, ◌+◌, ◌<◌, ◌≤◌, ◌⊎◌, inl, inr, true, false, ◌&&◌, cond, eqb, List, [], ◌∷◌, ◌++◌, Option, Some, None, refl, sym, ap, ◌∙◌, arith}
use Rattle.std.proofs.lemmas.Bool.{eq-eqb, cond-true, cond-false, cases_Bool, and_from}
use Rattle.session_list.specs.declared.session.Phase.{Phase}
use Rattle.admission_model.specs.Account.{Key, is_key, keys_without, session_if, present, on_phase, session_total, occurs}
use Rattle.session_list.specs.declared.session.Session.{Session}
use Rattle.admission_model.specs.Replies.{holder_limit}
use Rattle.merge_core.proofs.SumLemmas.{eqb_comm}
use Rattle.admission_model.proofs.KeyLemmas.{keys_total, AgreeBut, is_key-true, keys_listed, keys_total_without, keys_push}

pub is_key-refl : (r h : ℕ) → is_key r h r h ≡ true
is_key-refl r h = and_from (eqb r r) (eqb h h) (eq-eqb r r refl) (eq-eqb h h refl)

pub is_key-comm : (r h r2 h2 : ℕ) → is_key r h r2 h2 ≡ is_key r2 h2 r h
is_key-comm r h r2 h2 = ap (λ b. b && eqb h h2) (eqb_comm r r2) ∙ ap (λ b. eqb r2 r && b) (eqb_comm h h2)

-- what one listed holder adds
pub keys_member : (r h : ℕ) (f : ℕ → ℕ → ℕ) (ks : List Key) → occurs r h ks ≡ 1 → f r h ≤ keys_total f ks
keys_member r h f ks once =
    omega (
      arith,
      keys_listed r h f (λ r2 h2. cond (is_key r h r2 h2) 0 (f r2 h2)) (λ r2 h2 e. cond-false (is_key r h r2 h2) 0 (f r2 h2) e) ks once,
      cond-true (is_key r h r h) 0 (f r h) (is_key-refl r h),
    )

-- what two listed holders add
pub keys_two : (r h r2 h2 : ℕ) (f : ℕ → ℕ → ℕ) (ks : List Key) → is_key r h r2 h2 ≡ false → occurs r h ks ≡ 1 → occurs r2 h2 ks ≡ 1 → f r h + f r2 h2 ≤ keys_total f ks
keys_two r h r2 h2 f ks apart once once2 =
    let g = λ (x y : ℕ). cond (is_key r h x y) 0 (f x y) in
    omega (
      arith,
      keys_listed r h f g (λ x y e. cond-false (is_key r h x y) 0 (f x y) e) ks once,
      cond-true (is_key r h r h) 0 (f r h) (is_key-refl r h),
      keys_member r2 h2 g ks once2,
      cond-false (is_key r h r2 h2) 0 (f r2 h2) apart,
    )

-- what a phase adds to the sum over a record's sessions
abbrev pub adds : (Phase → ℕ) → ℕ → (ℕ → ℕ → Option Phase) → ℕ → ℕ → ℕ
adds value r phase r2 h2 = cond (eqb r2 r) (on_phase value (phase r2 h2)) 0

-- a session's place in the sum
one_session : (value : Phase → ℕ) (r : ℕ) (k : Key) (o : Option Phase) (rest : List Session) → session_total value r (session_if k o rest) ≡ cond (eqb k.r r) (on_phase value o) 0 + session_total value r rest
one_session value r k (Some p) rest = refl
one_session value r k None rest = at (cases_Bool (eqb k.r r))
  where
    at : (eqb k.r r ≡ true) ⊎ (eqb k.r r ≡ false) → session_total value r rest ≡ cond (eqb k.r r) 0 0 + session_total value r rest
    at (inl e) = omega (arith, cond-true {A = ℕ} (eqb k.r r) 0 0 e)
    at (inr e) = omega (arith, cond-false {A = ℕ} (eqb k.r r) 0 0 e)

-- the sum over sessions is a sum over arrivals
pub sessions-keys : (value : Phase → ℕ) (r : ℕ) (phase : ℕ → ℕ → Option Phase) (ks : List Key) → session_total value r (present phase ks) ≡ keys_total (adds value r phase) ks
sessions-keys value r phase [] = refl
sessions-keys value r phase (k ∷ ks) =
    omega (arith, one_session value r k (phase k.r k.h) (present phase ks), sessions-keys value r phase ks)

-- the phases after one holder's has changed
abbrev pub changed : ℕ → ℕ → Option Phase → (ℕ → ℕ → Option Phase) → ℕ → ℕ → Option Phase
changed r0 h0 new phase r h = cond (is_key r0 h0 r h) new (phase r h)

changed_agree : (value : Phase → ℕ) (r r0 h0 : ℕ) (new : Option Phase) (phase : ℕ → ℕ → Option Phase) → AgreeBut r0 h0 (adds value r phase) (adds value r (changed r0 h0 new phase))
changed_agree value r r0 h0 new phase r2 h2 e =
    ap (λ o. cond (eqb r2 r) (on_phase value o) 0) (cond-false (is_key r0 h0 r2 h2) new (phase r2 h2) e)

changed_here : (value : Phase → ℕ) (r r0 h0 : ℕ) (new : Option Phase) (phase : ℕ → ℕ → Option Phase) → adds value r (changed r0 h0 new phase) r0 h0 ≡ cond (eqb r0 r) (on_phase value new) 0
changed_here value r r0 h0 new phase =
    ap (λ o. cond (eqb r0 r) (on_phase value o) 0) (cond-true (is_key r0 h0 r0 h0) new (phase r0 h0) (is_key-refl r0 h0))

-- a holder that is listed once changes its phase
pub session_changes : (value : Phase → ℕ) (r r0 h0 : ℕ) (new : Option Phase) (phase : ℕ → ℕ → Option Phase) (ks : List Key) → occurs r0 h0 ks ≡ 1 → session_total value r (present (changed r0 h0 new phase) ks) + adds value r phase r0 h0 ≡ session_total value r (present phase ks) + cond (eqb r0 r) (on_phase value new) 0
session_changes value r r0 h0 new phase ks once =
    omega (
      arith,
      sessions-keys value r (changed r0 h0 new phase) ks,
      sessions-keys value r phase ks,
      keys_listed r0 h0 (adds value r phase) (adds value r (changed r0 h0 new phase)) (changed_agree value r r0 h0 new phase) ks once,
      changed_here value r r0 h0 new phase,
    )

no_phase : (value : Phase → ℕ) (r r0 h0 : ℕ) (phase : ℕ → ℕ → Option Phase) → phase r0 h0 ≡ None → adds value r phase r0 h0 ≡ 0
no_phase value r r0 h0 phase none = at (cases_Bool (eqb r0 r))
  where
    at : (eqb r0 r ≡ true) ⊎ (eqb r0 r ≡ false) → adds value r phase r0 h0 ≡ 0
    at (inl e) = cond-true (eqb r0 r) (on_phase value (phase r0 h0)) 0 e ∙ ap (on_phase value) none
    at (inr e) = cond-false (eqb r0 r) (on_phase value (phase r0 h0)) 0 e

-- a holder without a session arrives
pub session_arrives : (value : Phase → ℕ) (r r0 h0 : ℕ) (new : Option Phase) (phase : ℕ → ℕ → Option Phase) (ks : List Key) → phase r0 h0 ≡ None → session_total value r (present (changed r0 h0 new phase) (keys_without r0 h0 ks ++ record { r = r0; h = h0 } ∷ [])) ≡ session_total value r (present phase ks) + cond (eqb r0 r) (on_phase value new) 0
session_arrives value r r0 h0 new phase ks none =
    let key : Key = record { r = r0; h = h0 } in
    omega (
      arith,
      sessions-keys value r (changed r0 h0 new phase) (keys_without r0 h0 ks ++ key ∷ []),
      sessions-keys value r phase ks,
      keys_push (adds value r (changed r0 h0 new phase)) (keys_without r0 h0 ks) key,
      keys_total_without r0 h0 (adds value r phase) (adds value r (changed r0 h0 new phase)) (changed_agree value r r0 h0 new phase) (no_phase value r r0 h0 phase none) ks,
      changed_here value r r0 h0 new phase,
    )

occurs_push : (r h : ℕ) (ks : List Key) (k : Key) → occurs r h (ks ++ k ∷ []) ≡ occurs r h ks + cond (is_key r h k.r k.h) 1 0
occurs_push r h [] k = omega arith
occurs_push r h (k2 ∷ ks) k = omega (arith, occurs_push r h ks k)

occurs_gone : (r h : ℕ) (ks : List Key) → occurs r h (keys_without r h ks) ≡ 0
occurs_gone r h [] = refl
occurs_gone r h (k ∷ ks) = at (cases_Bool (is_key r h k.r k.h)) (occurs_gone r h ks)
  where
    at : (is_key r h k.r k.h ≡ true) ⊎ (is_key r h k.r k.h ≡ false) → occurs r h (keys_without r h ks) ≡ 0 → occurs r h (keys_without r h (k ∷ ks)) ≡ 0
    at (inl e) earlier = rw e earlier
    at (inr e) earlier = rw e (rw e (omega arith))

occurs_other : (r0 h0 r h : ℕ) → is_key r0 h0 r h ≡ false → (ks : List Key) → occurs r h (keys_without r0 h0 ks) ≡ occurs r h ks
occurs_other r0 h0 r h apart [] = refl
occurs_other r0 h0 r h apart (k ∷ ks) = at (cases_Bool (is_key r0 h0 k.r k.h)) (occurs_other r0 h0 r h apart ks)
  where
    at : (is_key r0 h0 k.r k.h ≡ true) ⊎ (is_key r0 h0 k.r k.h ≡ false) → occurs r h (keys_without r0 h0 ks) ≡ occurs r h ks → occurs r h (keys_without r0 h0 (k ∷ ks)) ≡ occurs r h (k ∷ ks)
    at (inl e) earlier =
        let same = is_key-true r0 h0 k.r k.h e in
        let other : is_key r h k.r k.h ≡ false =
        ap (λ x. is_key r h x k.h) (sym same.0) ∙ (ap (λ x. is_key r h r0 x) (sym same.1) ∙ (is_key-comm r h r0 h0 ∙ apart)) in
        rw e (omega (arith, cond-false {A = ℕ} (is_key r h k.r k.h) 1 0 other))
    at (inr e) earlier = rw e (omega arith)

-- every present session is listed once
abbrev pub IsListed : (ℕ → ℕ → Option Phase) → List Key → Type 0
IsListed phase ks = (r h : ℕ) (p : Phase) → phase r h ≡ Some p → occurs r h ks ≡ 1

pub IsListed-arrives : (r0 h0 : ℕ) (new : Option Phase) (phase : ℕ → ℕ → Option Phase) (ks : List Key) → IsListed phase ks → IsListed (changed r0 h0 new phase) (keys_without r0 h0 ks ++ record { r = r0; h = h0 } ∷ [])
IsListed-arrives r0 h0 new phase ks listed r h p there = at (cases_Bool (is_key r0 h0 r h))
  where
    key : Key
    key = record { r = r0; h = h0 }

    at : (is_key r0 h0 r h ≡ true) ⊎ (is_key r0 h0 r h ≡ false) → occurs r h (keys_without r0 h0 ks ++ record { r = r0; h = h0 } ∷ []) ≡ 1
    at (inl e) =
        let same = is_key-true r0 h0 r h e in
        let gone : occurs r h (keys_without r0 h0 ks) ≡ 0 =
        ap (λ x. occurs x h (keys_without r0 h0 ks)) (sym same.0) ∙ (ap (λ x. occurs r0 x (keys_without r0 h0 ks)) (sym same.1) ∙ occurs_gone r0 h0 ks) in
        omega (arith, occurs_push r h (keys_without r0 h0 ks) key, gone, cond-true {A = ℕ} (is_key r h r0 h0) 1 0 (is_key-comm r h r0 h0 ∙ e))
    at (inr e) =
        omega (
          arith,
          occurs_push r h (keys_without r0 h0 ks) key,
          occurs_other r0 h0 r h e ks,
          cond-false {A = ℕ} (is_key r h r0 h0) 1 0 (is_key-comm r h r0 h0 ∙ e),
          listed r h p (sym (cond-false (is_key r0 h0 r h) new (phase r h) e) ∙ there),
        )

pub IsListed-changes : (r0 h0 : ℕ) (new : Option Phase) (phase : ℕ → ℕ → Option Phase) (ks : List Key) → occurs r0 h0 ks ≡ 1 → IsListed phase ks → IsListed (changed r0 h0 new phase) ks
IsListed-changes r0 h0 new phase ks once listed r h p there = at (cases_Bool (is_key r0 h0 r h))
  where
    at : (is_key r0 h0 r h ≡ true) ⊎ (is_key r0 h0 r h ≡ false) → occurs r h ks ≡ 1
    at (inl e) =
        let same = is_key-true r0 h0 r h e in
        ap (λ x. occurs x h ks) (sym same.0) ∙ (ap (λ x. occurs r0 x ks) (sym same.1) ∙ once)
    at (inr e) = listed r h p (sym (cond-false (is_key r0 h0 r h) new (phase r h) e) ∙ there)

-- every present session is at one of the first n records
abbrev pub IsAmong : ℕ → (ℕ → ℕ → Option Phase) → Type 0
IsAmong n phase = (r h : ℕ) (p : Phase) → phase r h ≡ Some p → r < n

pub IsAmong-changes : (n r0 h0 : ℕ) (new : Option Phase) (phase : ℕ → ℕ → Option Phase) → r0 < n → IsAmong n phase → IsAmong n (changed r0 h0 new phase)
IsAmong-changes n r0 h0 new phase below among r h p there = at (cases_Bool (is_key r0 h0 r h))
  where
    at : (is_key r0 h0 r h ≡ true) ⊎ (is_key r0 h0 r h ≡ false) → r < n
    at (inl e) = let same : r0 ≡ r = (is_key-true r0 h0 r h e).0 in omega arith
    at (inr e) = among r h p (sym (cond-false (is_key r0 h0 r h) new (phase r h) e) ∙ there)

-- every present session is of a holder within its limit
abbrev pub AreHolders : (ℕ → ℕ → Option Phase) → Type 0
AreHolders phase = (r h : ℕ) (p : Phase) → phase r h ≡ Some p → h ≤ holder_limit

pub AreHolders-changes : (r0 h0 : ℕ) (new : Option Phase) (phase : ℕ → ℕ → Option Phase) → h0 ≤ holder_limit → AreHolders phase → AreHolders (changed r0 h0 new phase)
AreHolders-changes r0 h0 new phase below held r h p there = at (cases_Bool (is_key r0 h0 r h))
  where
    at : (is_key r0 h0 r h ≡ true) ⊎ (is_key r0 h0 r h ≡ false) → h ≤ holder_limit
    at (inl e) = let same : h0 ≡ h = (is_key-true r0 h0 r h e).1 in omega arith
    at (inr e) = held r h p (sym (cond-false (is_key r0 h0 r h) new (phase r h) e) ∙ there)
