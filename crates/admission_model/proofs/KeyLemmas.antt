-- Sums over sessions, when one session comes, changes or goes.
use Rattle.std.proofs.Common.{◌≡◌, ℕ, ◌+◌, ◌⊎◌, inl, inr, true, false, eqb, List, [], ◌∷◌, ◌++◌, refl, arith}
use Rattle.std.proofs.lemmas.Bool.{eqb-true, cond-true, cond-false, cases_Bool, and_parts}
use Rattle.admission_model.specs.Account.{Key, is_key, keys_without, occurs}

-- a sum over keys
abbrev pub keys_total : (ℕ → ℕ → ℕ) → List Key → ℕ
keys_total f [] = 0
keys_total f (k ∷ ks) = f k.r k.h + keys_total f ks

pub is_key-true : (r h r2 h2 : ℕ) → is_key r h r2 h2 ≡ true → (r ≡ r2) × (h ≡ h2)
is_key-true r h r2 h2 e =
    let parts = and_parts (eqb r r2) (eqb h h2) e in
    (eqb-true r r2 parts.0, eqb-true h h2 parts.1)

-- two functions agree but at one holder of one record
abbrev pub AgreeBut : ℕ → ℕ → (ℕ → ℕ → ℕ) → (ℕ → ℕ → ℕ) → Type 0
AgreeBut r h f g = (r2 h2 : ℕ) → is_key r h r2 h2 ≡ false → g r2 h2 ≡ f r2 h2

pub keys_absent : (r h : ℕ) (f g : ℕ → ℕ → ℕ) → AgreeBut r h f g → (ks : List Key) → occurs r h ks ≡ 0 → keys_total g ks ≡ keys_total f ks
keys_absent r h f g agree [] none = refl
keys_absent r h f g agree (k ∷ ks) none = at (cases_Bool (is_key r h k.r k.h)) (keys_absent r h f g agree ks)
  where
    at : (is_key r h k.r k.h ≡ true) ⊎ (is_key r h k.r k.h ≡ false) → (occurs r h ks ≡ 0 → keys_total g ks ≡ keys_total f ks) → keys_total g (k ∷ ks) ≡ keys_total f (k ∷ ks)
    at (inl e) earlier = absurd (omega (arith, cond-true {A = ℕ} (is_key r h k.r k.h) 1 0 e))
    at (inr e) earlier =
        let fewer : occurs r h ks ≡ 0 = omega (arith, cond-false {A = ℕ} (is_key r h k.r k.h) 1 0 e) in
        omega (arith, agree k.r k.h e, earlier fewer)

pub keys_listed : (r h : ℕ) (f g : ℕ → ℕ → ℕ) → AgreeBut r h f g → (ks : List Key) → occurs r h ks ≡ 1 → keys_total g ks + f r h ≡ keys_total f ks + g r h
keys_listed r h f g agree [] once = absurd (omega arith)
keys_listed r h f g agree (k ∷ ks) once = at (cases_Bool (is_key r h k.r k.h)) (keys_listed r h f g agree ks)
  where
    at : (is_key r h k.r k.h ≡ true) ⊎ (is_key r h k.r k.h ≡ false) → (occurs r h ks ≡ 1 → keys_total g ks + f r h ≡ keys_total f ks + g r h) → keys_total g (k ∷ ks) + f r h ≡ keys_total f (k ∷ ks) + g r h
    at (inl e) earlier =
        let same = is_key-true r h k.r k.h e in
        let none : occurs r h ks ≡ 0 = omega (arith, cond-true {A = ℕ} (is_key r h k.r k.h) 1 0 e) in
        let f_here : f r h ≡ f k.r k.h = cc (same.0, same.1) in
        let g_here : g r h ≡ g k.r k.h = cc (same.0, same.1) in
        omega (arith, keys_absent r h f g agree ks none)
    at (inr e) earlier =
        let later : occurs r h ks ≡ 1 = omega (arith, cond-false {A = ℕ} (is_key r h k.r k.h) 1 0 e) in
        omega (arith, agree k.r k.h e, earlier later)

pub keys_total_without : (r h : ℕ) (f g : ℕ → ℕ → ℕ) → AgreeBut r h f g → f r h ≡ 0 → (ks : List Key) → keys_total g (keys_without r h ks) ≡ keys_total f ks
keys_total_without r h f g agree nothing [] = refl
keys_total_without r h f g agree nothing (k ∷ ks) =
    at (cases_Bool (is_key r h k.r k.h)) (keys_total_without r h f g agree nothing ks)
  where
    at : (is_key r h k.r k.h ≡ true) ⊎ (is_key r h k.r k.h ≡ false) → keys_total g (keys_without r h ks) ≡ keys_total f ks → keys_total g (keys_without r h (k ∷ ks)) ≡ keys_total f (k ∷ ks)
    at (inl e) earlier =
        let same = is_key-true r h k.r k.h e in
        let f_here : f r h ≡ f k.r k.h = cc (same.0, same.1) in
        rw e (omega arith)
    at (inr e) earlier = rw e (omega (arith, agree k.r k.h e))

pub keys_push : (f : ℕ → ℕ → ℕ) (ks : List Key) (k : Key) → keys_total f (ks ++ k ∷ []) ≡ keys_total f ks + f k.r k.h
keys_push f [] k = omega arith
keys_push f (k2 ∷ ks) k = omega (arith, keys_push f ks k)
