-- Sessions in order of their places, after one is put or dropped.
use Rattle.std.proofs.Common.{◌≡◌, inl, inr, ℕ, ◌<◌, Bool, true, false, not, nat_lt, cond, max, List, [], ◌∷◌, ◌++◌, map, Option, Some, None, is_some, IsTrue, refl, sym, ap, subst, ◌∙◌, arith}
use Rattle.std.specs.List.{AllByRecursion}
use Rattle.std.proofs.lemmas.Bool.{cases_Bool}
use Rattle.std.proofs.lemmas.Bool.Decides.{nat_tests}
use Rattle.session_list.specs.declared.session.Phase.{Phase}
use Rattle.session_list.specs.declared.session.Phase.TheVariants.{Reader, Waiting, Writer}
use Rattle.session_list.specs.declared.session.Session.{Session}
use Rattle.session_list.specs.Sessions as lists
use Rattle.store_rows.specs.declared.content.Stage.{Stage}
use Rattle.store_rows.specs.declared.content.StoredSession.{StoredSession}
use Rattle.store_rows.specs.Rows.{session_before}
use Rattle.store_rows.specs.Sorted.{IsRising, put}
use Rattle.store_rows.specs.Changes.{is_of, without}
use Rattle.store_content.specs.Content.{IsOnce, IsPlaced, greatest_place, phase_of, place_in, session_of, stage_for}
use Rattle.store_content.specs.Known.{same_key}
use Rattle.store_content.proofs.IndexLemmas.{same_key_laws}

-- a session of a holder in another stage
abbrev pub restage : Stage → ℕ → ℕ → StoredSession → StoredSession
restage stage r h t = record t { stage = cond (same_key (r, h) (t.r, t.h)) stage t.stage }

is_of-key : (r h : ℕ) (t : StoredSession) → is_of r h t ≡ same_key (r, h) (t.r, t.h)
is_of-key r h t = same_key_laws.symm (t.r, t.h) (r, h)

-- the parts of "no session of a holder"
pub apart : (t : StoredSession) (ts : List StoredSession) (r h : ℕ) → place_in (t ∷ ts) r h ≡ None → (same_key (r, h) (t.r, t.h) ≡ false) × (place_in ts r h ≡ None)
apart t ts r h none = elim (cases_Bool (same_key (r, h) (t.r, t.h))) [
  | inl e ↦ absurd (let clash : Some t.place ≡ None = rw e at none in cc)
  | inr e ↦ (e, rw e at none)
]

-- ---- one that is dropped

pub drops : (t : StoredSession) (ts : List StoredSession) (r h : ℕ) (b : Bool) → same_key (r, h) (t.r, t.h) ≡ b → without r h (t ∷ ts) ≡ cond b (without r h ts) (t ∷ without r h ts)
drops t ts r h true e = ap (λ b. cond (not b) (t ∷ without r h ts) (without r h ts)) (is_of-key r h t ∙ e)
drops t ts r h false e = ap (λ b. cond (not b) (t ∷ without r h ts) (without r h ts)) (is_of-key r h t ∙ e)

pub without_none : (ss : List StoredSession) (r h : ℕ) → place_in ss r h ≡ None → without r h ss ≡ ss
without_none [] r h none = refl
without_none (t ∷ ts) r h none =
    let parts = apart t ts r h none in
    drops t ts r h false parts.0 ∙ ap (λ l. t ∷ l) (without_none ts r h parts.1)

pub same_place : (t : StoredSession) (ts : List StoredSession) (r h : ℕ) → same_key (r, h) (t.r, t.h) ≡ true → place_in ts t.r t.h ≡ None → place_in ts r h ≡ None
same_place t ts r h e none =
    let p : r ≡ t.r = grind (arith, nat_tests) in
    let q : h ≡ t.h = grind (arith, nat_tests) in
    rw (p, q) none

key_through : (r h q g : ℕ) (t : StoredSession) → same_key (r, h) (t.r, t.h) ≡ true → same_key (q, g) (t.r, t.h) ≡ true → same_key (r, h) (q, g) ≡ true
key_through r h q g t e f = grind (arith, nat_tests)

key_apart : (r h q g : ℕ) (t : StoredSession) → same_key (r, h) (t.r, t.h) ≡ false → same_key (q, g) (t.r, t.h) ≡ true → same_key (r, h) (q, g) ≡ false
key_apart r h q g t e f = grind (arith, nat_tests)

key_along : (r h q g : ℕ) (t : StoredSession) → same_key (r, h) (t.r, t.h) ≡ true → same_key (q, g) (t.r, t.h) ≡ false → same_key (r, h) (q, g) ≡ false
key_along r h q g t e f = grind (arith, nat_tests)

pub place_without : (ss : List StoredSession) (r h q g : ℕ) → place_in (without r h ss) q g ≡ cond (same_key (r, h) (q, g)) None (place_in ss q g)
place_without [] r h q g = elim (cases_Bool (same_key (r, h) (q, g))) [ inl e ↦ rw e refl | inr e ↦ rw e refl ]
place_without (t ∷ ts) r h q g =
    let rest = place_without ts r h q g in
    elim (cases_Bool (same_key (r, h) (t.r, t.h))) [
      | inl e ↦ ap (λ l. place_in l q g) (drops t ts r h true e) ∙ elim (cases_Bool (same_key (q, g) (t.r, t.h))) [
        | inl f ↦ rest ∙ rw (key_through r h q g t e f) refl
        | inr f ↦ rest ∙ rw (key_along r h q g t e f, f) refl
      ]
      | inr e ↦ ap (λ l. place_in l q g) (drops t ts r h false e) ∙ elim (cases_Bool (same_key (q, g) (t.r, t.h))) [
        | inl f ↦ rw (f, key_apart r h q g t e f) refl
        | inr f ↦ rw f rest
      ]
    ]

none_either : (b : Bool) → ◌≡◌ {A = Option ℕ} (cond b None None) None
none_either true = refl
none_either false = refl

pub once_without : (ss : List StoredSession) (r h : ℕ) → IsOnce ss → IsOnce (without r h ss)
once_without [] r h once = tt
once_without (t ∷ ts) r h once = elim (cases_Bool (same_key (r, h) (t.r, t.h))) [
  | inl e ↦ subst IsOnce (sym (drops t ts r h true e)) (once_without ts r h once.1)
  | inr e ↦ subst IsOnce (sym (drops t ts r h false e)) (
    place_without ts r h t.r t.h ∙ ap (λ o. cond (same_key (r, h) (t.r, t.h)) None o) once.0 ∙ none_either (same_key (r, h) (t.r, t.h)),
    once_without ts r h once.1,
  )
]

pub all_without : (P : StoredSession → Type 0) (ss : List StoredSession) (r h : ℕ) → AllByRecursion P ss → AllByRecursion P (without r h ss)
all_without P [] r h all = tt
all_without P (t ∷ ts) r h all = elim (cases_Bool (same_key (r, h) (t.r, t.h))) [
  | inl e ↦ subst (AllByRecursion P) (sym (drops t ts r h true e)) (all_without P ts r h all.1)
  | inr e ↦ subst (AllByRecursion P) (sym (drops t ts r h false e)) (all.0, all_without P ts r h all.1)
]

pub rise_without : (ss : List StoredSession) (r h : ℕ) → IsRising session_before ss → IsRising session_before (without r h ss)
rise_without [] r h up = tt
rise_without (t ∷ ts) r h up = elim (cases_Bool (same_key (r, h) (t.r, t.h))) [
  | inl e ↦ subst (IsRising session_before) (sym (drops t ts r h true e)) (rise_without ts r h up.1)
  | inr e ↦ subst (IsRising session_before) (sym (drops t ts r h false e)) (all_without (λ y. IsTrue (session_before t y)) ts r h up.0, rise_without ts r h up.1)
]

pub greatest_without : (ss : List StoredSession) (r h p : ℕ) → IsOnce ss → place_in ss r h ≡ Some p → greatest_place ss ≡ max p (greatest_place (without r h ss))
greatest_without [] r h p once found = cc
greatest_without (t ∷ ts) r h p once found = elim (cases_Bool (same_key (r, h) (t.r, t.h))) [
  | inl e ↦
      let is : Some t.place ≡ Some p = rw e at found in
      let same : t.place ≡ p = cc in
      let rest : without r h (t ∷ ts) ≡ ts = drops t ts r h true e ∙ without_none ts r h (same_place t ts r h e once.0) in
      rw (rest, same) refl
  | inr e ↦
      let rest = greatest_without ts r h p once.1 (rw e at found) in
      rw (drops t ts r h false e) (omega arith)
]

-- ---- one that is there, in another stage

pub place_restage : (stage : Stage) (r h : ℕ) (ss : List StoredSession) (q g : ℕ) → place_in (map (restage stage r h) ss) q g ≡ place_in ss q g
place_restage stage r h [] q g = refl
place_restage stage r h (t ∷ ts) q g = ap (cond (same_key (q, g) (t.r, t.h)) (Some t.place)) (place_restage stage r h ts q g)

pub once_restage : (stage : Stage) (r h : ℕ) (ss : List StoredSession) → IsOnce ss → IsOnce (map (restage stage r h) ss)
once_restage stage r h [] once = tt
once_restage stage r h (t ∷ ts) once = (place_restage stage r h ts t.r t.h ∙ once.0, once_restage stage r h ts once.1)

behind_restage : (stage : Stage) (r h : ℕ) (x : StoredSession) (ss : List StoredSession) → AllByRecursion (λ y. IsTrue (session_before x y)) ss
    → AllByRecursion (λ y. IsTrue (session_before (restage stage r h x) y)) (map (restage stage r h) ss)
behind_restage stage r h x [] all = tt
behind_restage stage r h x (t ∷ ts) all = (all.0, behind_restage stage r h x ts all.1)

pub rise_restage : (stage : Stage) (r h : ℕ) (ss : List StoredSession) → IsRising session_before ss → IsRising session_before (map (restage stage r h) ss)
rise_restage stage r h [] up = tt
rise_restage stage r h (t ∷ ts) up = (behind_restage stage r h t ts up.0, rise_restage stage r h ts up.1)

pub placed_restage : (stage : Stage) (r h : ℕ) (ss : List StoredSession) → AllByRecursion IsPlaced ss → AllByRecursion IsPlaced (map (restage stage r h) ss)
placed_restage stage r h [] all = tt
placed_restage stage r h (t ∷ ts) all = (record { record_fits = all.0.record_fits; given = all.0.given; small = all.0.small }, placed_restage stage r h ts all.1)

pub greatest_restage : (stage : Stage) (r h : ℕ) (ss : List StoredSession) → greatest_place (map (restage stage r h) ss) ≡ greatest_place ss
greatest_restage stage r h [] = refl
greatest_restage stage r h (t ∷ ts) = ap (max t.place) (greatest_restage stage r h ts)

restage_none : (stage : Stage) (r h : ℕ) (ss : List StoredSession) → place_in ss r h ≡ None → map (restage stage r h) ss ≡ ss
restage_none stage r h [] none = refl
restage_none stage r h (t ∷ ts) none =
    let parts = apart t ts r h none in
    rw parts.0 (ap (λ l. t ∷ l) (restage_none stage r h ts parts.1))

session : ℕ → ℕ → Stage → ℕ → StoredSession
session r h stage place = record { r = r; h = h; stage = stage; place = place }

restaged : (s t : StoredSession) → same_key (s.r, s.h) (t.r, t.h) ≡ true → t.place ≡ s.place → s ≡ restage s.stage s.r s.h t
unfolding session
restaged s t e p =
    let r : s.r ≡ t.r = grind (arith, nat_tests) in
    let h : s.h ≡ t.h = grind (arith, nat_tests) in
    rw e (ap (λ x. session x s.h s.stage s.place) r ∙ ap (λ x. session t.r x s.stage s.place) h ∙ ap (session t.r t.h s.stage) (sym p))

put_first : (s : StoredSession) (ss : List StoredSession) → AllByRecursion (λ y. IsTrue (session_before s y)) ss → put session_before s ss ≡ s ∷ ss
put_first s [] all = refl
put_first s (t ∷ ts) all = rw all.0 refl

all_at : (t s : StoredSession) (ss : List StoredSession) → t.place ≡ s.place → AllByRecursion (λ y. IsTrue (session_before t y)) ss → AllByRecursion (λ y. IsTrue (session_before s y)) ss
all_at t s [] e all = tt
all_at t s (x ∷ xs) e all = (rw (← e) all.0, all_at t s xs e all.1)

pub place_behind : (t : StoredSession) (ss : List StoredSession) (r h p : ℕ) → AllByRecursion (λ y. IsTrue (session_before t y)) ss → place_in ss r h ≡ Some p → nat_lt t.place p ≡ true
place_behind t [] r h p all found = cc
place_behind t (x ∷ xs) r h p all found = elim (cases_Bool (same_key (r, h) (x.r, x.h))) [
  | inl e ↦ let is : Some x.place ≡ Some p = rw e at found in let same : x.place ≡ p = cc in rw (← same) all.0
  | inr e ↦ place_behind t xs r h p all.1 (rw e at found)
]

lt_not : (a b : ℕ) → nat_lt a b ≡ true → nat_lt b a ≡ false
lt_not a b e = grind (arith, nat_tests)

-- a session that is put at its own place stays there
pub put_there : (s : StoredSession) (ss : List StoredSession) → IsRising session_before ss → IsOnce ss → place_in ss s.r s.h ≡ Some s.place
    → put session_before s (without s.r s.h ss) ≡ map (restage s.stage s.r s.h) ss
put_there s [] up once found = cc
put_there s (t ∷ ts) up once found = elim (cases_Bool (same_key (s.r, s.h) (t.r, t.h))) [
  | inl e ↦
      let is : Some t.place ≡ Some s.place = rw e at found in
      let same : t.place ≡ s.place = cc in
      let none = same_place t ts s.r s.h e once.0 in
      ap (put session_before s) (drops t ts s.r s.h true e ∙ without_none ts s.r s.h none)
      ∙ put_first s ts (all_at t s ts same up.0)
      ∙ ap (λ x. x ∷ ts) (restaged s t e same) ∙ ap (λ l. restage s.stage s.r s.h t ∷ l) (sym (restage_none s.stage s.r s.h ts none))
  | inr e ↦
      let later : place_in ts s.r s.h ≡ Some s.place = rw e at found in
      let first = place_behind t ts s.r s.h s.place up.0 later in
      ap (put session_before s) (drops t ts s.r s.h false e) ∙ rw (lt_not t.place s.place first, first, e) (ap (λ l. t ∷ l) (put_there s ts up.1 once.1 later))
]

-- ---- a new one

below_of : (a b : ℕ) → a < b → nat_lt a b ≡ true
below_of a b e = grind (arith, nat_tests)

pub all_below : (ss : List StoredSession) (n : ℕ) → greatest_place ss < n → AllByRecursion (λ t. IsTrue (nat_lt t.place n)) ss
all_below [] n low = tt
all_below (t ∷ ts) n low = (below_of t.place n (omega arith), all_below ts n (omega arith))

-- a session that is put behind all goes last
pub put_last : (s : StoredSession) (ss : List StoredSession) → AllByRecursion (λ t. IsTrue (nat_lt t.place s.place)) ss → put session_before s ss ≡ ss ++ s ∷ []
put_last s [] all = refl
put_last s (t ∷ ts) all = rw (lt_not t.place s.place all.0, all.0) (ap (λ l. t ∷ l) (put_last s ts all.1))

pub place_append : (s : StoredSession) (ss : List StoredSession) (q g : ℕ) → place_in ss s.r s.h ≡ None
    → place_in (ss ++ s ∷ []) q g ≡ cond (same_key (s.r, s.h) (q, g)) (Some s.place) (place_in ss q g)
place_append s [] q g none = ap (λ b. cond b (Some s.place) None) (same_key_laws.symm (q, g) (s.r, s.h))
place_append s (t ∷ ts) q g none =
    let parts = apart t ts s.r s.h none in
    elim (cases_Bool (same_key (q, g) (t.r, t.h))) [
      | inl f ↦ rw (f, key_apart s.r s.h q g t parts.0 f) refl
      | inr f ↦ rw f (place_append s ts q g parts.1)
    ]

pub once_append : (s : StoredSession) (ss : List StoredSession) → IsOnce ss → place_in ss s.r s.h ≡ None → IsOnce (ss ++ s ∷ [])
once_append s [] once none = (refl, tt)
once_append s (t ∷ ts) once none =
    let parts = apart t ts s.r s.h none in (
      place_append s ts t.r t.h parts.1 ∙ rw parts.0 once.0,
      once_append s ts once.1 parts.1,
    )

pub all_append : (P : StoredSession → Type 0) (s : StoredSession) (ss : List StoredSession) → P s → AllByRecursion P ss → AllByRecursion P (ss ++ s ∷ [])
all_append P s [] p all = (p, tt)
all_append P s (t ∷ ts) p all = (all.0, all_append P s ts p all.1)

pub rise_append : (s : StoredSession) (ss : List StoredSession) → AllByRecursion (λ t. IsTrue (nat_lt t.place s.place)) ss → IsRising session_before ss → IsRising session_before (ss ++ s ∷ [])
rise_append s [] all up = (tt, tt)
rise_append s (t ∷ ts) all up = (all_append (λ y. IsTrue (session_before t y)) s ts all.0 up.0, rise_append s ts all.1 up.1)

pub greatest_append : (s : StoredSession) (ss : List StoredSession) → greatest_place (ss ++ s ∷ []) ≡ max (greatest_place ss) s.place
greatest_append s [] = omega arith
greatest_append s (t ∷ ts) = let rest = greatest_append s ts in omega arith

-- ---- as sessions of a durable part

pub phase_stage : (p : Phase) → phase_of (stage_for p) ≡ p
phase_stage Reader = refl
phase_stage Waiting = refl
phase_stage Writer = refl

pub is_present : (ss : List StoredSession) (r h : ℕ) → is_some (lists.phase_in (map session_of ss) r h) ≡ is_some (place_in ss r h)
is_present [] r h = refl
is_present (t ∷ ts) r h = elim (cases_Bool (same_key (r, h) (t.r, t.h))) [
  | inl e ↦ rw e refl
  | inr e ↦ rw e (is_present ts r h)
]

abbrev as_session : ℕ → ℕ → Phase → Session
as_session r h p = record { r = r; h = h; phase = p }

pub sessions_restage : (p : Phase) (r h : ℕ) (ss : List StoredSession) → map session_of (map (restage (stage_for p) r h) ss) ≡ lists.with_phase (map session_of ss) r h p
sessions_restage p r h [] = refl
sessions_restage p r h (t ∷ ts) = elim (cases_Bool (same_key (r, h) (t.r, t.h))) [
  | inl e ↦ rw (e, phase_stage p) (ap (λ l. as_session t.r t.h p ∷ l) (sessions_restage p r h ts))
  | inr e ↦ rw e (ap (λ l. session_of t ∷ l) (sessions_restage p r h ts))
]

pub sessions_without : (r h : ℕ) (ss : List StoredSession) → map session_of (without r h ss) ≡ lists.without (map session_of ss) r h
sessions_without r h [] = refl
sessions_without r h (t ∷ ts) = elim (cases_Bool (same_key (r, h) (t.r, t.h))) [
  | inl e ↦ ap (map session_of) (drops t ts r h true e) ∙ rw e (sessions_without r h ts)
  | inr e ↦ ap (map session_of) (drops t ts r h false e) ∙ rw e (ap (λ l. session_of t ∷ l) (sessions_without r h ts))
]

pub sessions_append : (s : StoredSession) (ss : List StoredSession) → map session_of (ss ++ s ∷ []) ≡ map session_of ss ++ session_of s ∷ []
sessions_append s [] = refl
sessions_append s (t ∷ ts) = ap (λ l. session_of t ∷ l) (sessions_append s ts)
