-- The order of sessions.
use Rattle.std.proofs.Common.{◌≡◌, ℕ, ◌≤◌, ◌⊎◌, inl, inr, true, false, not, List, [], ◌∷◌, ◌++◌, map, Option, Some, None, refl, sym, ap, ◌∙◌, arith}
use Rattle.std.specs.List.{AllByRecursion}
use Rattle.std.proofs.lemmas.Bool.{cases_Bool, cond-true, cond-false}
use Rattle.admission_model.specs.declared.ask.Ask.{Ask}
use Rattle.admission_model.specs.declared.ask.Ask.TheVariants.{Read, Announce, Quill, Leave, Give, Help}
use Rattle.admission_model.specs.declared.ask.Call.TheVariants.{Ask as AskCall}
use Rattle.session_list.specs.declared.session.Phase.{Phase}
use Rattle.session_list.specs.declared.session.Phase.TheVariants.{Reader, Waiting, Writer}
use Rattle.admission_model.specs.Account.{Account, Origin, Key, begin, is_key, key_of, keys_without, occurs, session_if, present, arrivals, phase_of, sessions_of}
use Rattle.session_list.specs.Sessions.{phase_in}
use Rattle.session_list.specs.declared.session.Session.{Session}
use Rattle.admission_model.specs.View.{view_of}
use Rattle.admission_model.specs.Replies.{read_lines, announce_lines, write_lines}
use Rattle.admission_model.specs.Serving.{reason, operation_of, advanced, unless_refused, after}
use Rattle.session_list.specs.Sessions.{without, with_phase}
use Rattle.admission_model.specs.Order.{sessions_next}
use Rattle.admission_model.specs.Sound.{IsOrigin}
use Rattle.admission_model.proofs.KeyLemmas.{is_key-true}
use Rattle.admission_model.proofs.SessionLemmas.{is_key-refl, changed}
use Rattle.admission_model.proofs.RowLemmas.{none_of}
use Rattle.admission_model.proofs.ServingLemmas.{clear_of, waits}

-- the phase of another holder
changed_other : (r h : ℕ) (new : Option Phase) (phase : ℕ → ℕ → Option Phase) (k : Key) → is_key r h k.r k.h ≡ false → changed r h new phase k.r k.h ≡ phase k.r k.h
changed_other r h new phase k e = cond-false (is_key r h k.r k.h) new (phase k.r k.h) e

changed_here : (r h : ℕ) (new : Option Phase) (phase : ℕ → ℕ → Option Phase) (k : Key) → is_key r h k.r k.h ≡ true → changed r h new phase k.r k.h ≡ new
changed_here r h new phase k e = cond-true (is_key r h k.r k.h) new (phase k.r k.h) e

phase_at : (r h : ℕ) (phase : ℕ → ℕ → Option Phase) (k : Key) → is_key r h k.r k.h ≡ true → phase r h ≡ phase k.r k.h
phase_at r h phase k e =
    let same = is_key-true r h k.r k.h e in
    ap (λ x. phase x h) same.0 ∙ ap (λ x. phase k.r x) same.1

-- a holder without a session is not present
without_absent : (r h : ℕ) (new : Option Phase) (phase : ℕ → ℕ → Option Phase) (ks : List Key) → phase r h ≡ None → present (changed r h new phase) (keys_without r h ks) ≡ present phase ks
without_absent r h new phase [] none = refl
without_absent r h new phase (k ∷ ks) none = at (cases_Bool (is_key r h k.r k.h)) (without_absent r h new phase ks none)
  where
    at : (is_key r h k.r k.h ≡ true) ⊎ (is_key r h k.r k.h ≡ false) → present (changed r h new phase) (keys_without r h ks) ≡ present phase ks → present (changed r h new phase) (keys_without r h (k ∷ ks)) ≡ present phase (k ∷ ks)
    at (inl e) later =
        ap (present (changed r h new phase)) (cond-true (is_key r h k.r k.h) (keys_without r h ks) (k ∷ keys_without r h ks) e)
        ∙ (later ∙ ap (λ o. session_if k o (present phase ks)) (sym none ∙ phase_at r h phase k e))
    at (inr e) later =
        ap (present (changed r h new phase)) (cond-false (is_key r h k.r k.h) (keys_without r h ks) (k ∷ keys_without r h ks) e)
        ∙ (ap (λ o. session_if k o (present (changed r h new phase) (keys_without r h ks))) (changed_other r h new phase k e)
        ∙ ap (session_if k (phase k.r k.h)) later)

session_if-append : (k : Key) (o : Option Phase) (xs ys : List Session) → session_if k o (xs ++ ys) ≡ session_if k o xs ++ ys
session_if-append k None xs ys = refl
session_if-append k (Some p) xs ys = refl

present-append : (phase : ℕ → ℕ → Option Phase) (ks : List Key) (k : Key) → present phase (ks ++ k ∷ []) ≡ present phase ks ++ session_if k (phase k.r k.h) []
present-append phase [] k = refl
present-append phase (j ∷ ks) k =
    ap (session_if j (phase j.r j.h)) (present-append phase ks k)
    ∙ session_if-append j (phase j.r j.h) (present phase ks) (session_if k (phase k.r k.h) [])

-- who arrives goes last
arrives_last : (r h : ℕ) (p : Phase) (phase : ℕ → ℕ → Option Phase) (ks : List Key) → phase r h ≡ None → present (changed r h (Some p) phase) (keys_without r h ks ++ record { r = r; h = h } ∷ []) ≡ present phase ks ++ record { r = r; h = h; phase = p } ∷ []
arrives_last r h p phase ks none =
    let key : Key = record { r = r; h = h } in
    present-append (changed r h (Some p) phase) (keys_without r h ks) key
    ∙ (ap (λ xs. xs ++ session_if key (changed r h (Some p) phase r h) []) (without_absent r h (Some p) phase ks none)
    ∙ ap (λ o. present phase ks ++ session_if key o []) (changed_here r h (Some p) phase key (is_key-refl r h)))

-- a phase that changes leaves its session at its place
changes_there : (r h : ℕ) (old new : Phase) (phase : ℕ → ℕ → Option Phase) (ks : List Key) → phase r h ≡ Some old → present (changed r h (Some new) phase) ks ≡ with_phase (present phase ks) r h new
changes_there r h old new phase [] there = refl
changes_there r h old new phase (k ∷ ks) there = at (cases_Bool (is_key r h k.r k.h)) (phase k.r k.h) refl (changes_there r h old new phase ks there)
  where
    at : (is_key r h k.r k.h ≡ true) ⊎ (is_key r h k.r k.h ≡ false) → (o : Option Phase) → phase k.r k.h ≡ o → present (changed r h (Some new) phase) ks ≡ with_phase (present phase ks) r h new → present (changed r h (Some new) phase) (k ∷ ks) ≡ with_phase (present phase (k ∷ ks)) r h new
    at (inl e) None is later =
        let clash : ◌≡◌ {A = Option Phase} None (Some old) = sym is ∙ (sym (phase_at r h phase k e) ∙ there) in cc
    at (inl e) (Some p) is later =
        ap (λ o. session_if k o (present (changed r h (Some new) phase) ks)) (changed_here r h (Some new) phase k e)
        ∙ (ap (λ xs. record { r = k.r; h = k.h; phase = new } ∷ xs) later
        ∙ (sym (ap (λ s. s ∷ with_phase (present phase ks) r h new) (cond-true (is_key r h k.r k.h) (record { r = k.r; h = k.h; phase = new }) (record { r = k.r; h = k.h; phase = p }) e))
        ∙ ap (λ o. with_phase (session_if k o (present phase ks)) r h new) (sym is)))
    at (inr e) None is later =
        ap (λ o. session_if k o (present (changed r h (Some new) phase) ks)) (changed_other r h (Some new) phase k e ∙ is)
        ∙ (later ∙ ap (λ o. with_phase (session_if k o (present phase ks)) r h new) (sym is))
    at (inr e) (Some p) is later =
        ap (λ o. session_if k o (present (changed r h (Some new) phase) ks)) (changed_other r h (Some new) phase k e ∙ is)
        ∙ (ap (λ xs. record { r = k.r; h = k.h; phase = p } ∷ xs) later
        ∙ (sym (ap (λ s. s ∷ with_phase (present phase ks) r h new) (cond-false (is_key r h k.r k.h) (record { r = k.r; h = k.h; phase = new }) (record { r = k.r; h = k.h; phase = p }) e))
        ∙ ap (λ o. with_phase (session_if k o (present phase ks)) r h new) (sym is)))

-- who leaves moves nobody
leaves_gap : (r h : ℕ) (phase : ℕ → ℕ → Option Phase) (ks : List Key) → present (changed r h None phase) ks ≡ without (present phase ks) r h
leaves_gap r h phase [] = refl
leaves_gap r h phase (k ∷ ks) = at (cases_Bool (is_key r h k.r k.h)) (phase k.r k.h) refl (leaves_gap r h phase ks)
  where
    at : (is_key r h k.r k.h ≡ true) ⊎ (is_key r h k.r k.h ≡ false) → (o : Option Phase) → phase k.r k.h ≡ o → present (changed r h None phase) ks ≡ without (present phase ks) r h → present (changed r h None phase) (k ∷ ks) ≡ without (present phase (k ∷ ks)) r h
    at (inl e) None is later =
        ap (λ o. session_if k o (present (changed r h None phase) ks)) (changed_here r h None phase k e)
        ∙ (later ∙ ap (λ o. without (session_if k o (present phase ks)) r h) (sym is))
    at (inl e) (Some p) is later =
        ap (λ o. session_if k o (present (changed r h None phase) ks)) (changed_here r h None phase k e)
        ∙ (later
        ∙ (sym (cond-false (not (is_key r h k.r k.h)) (record { r = k.r; h = k.h; phase = p } ∷ without (present phase ks) r h) (without (present phase ks) r h) (ap not e))
        ∙ ap (λ o. without (session_if k o (present phase ks)) r h) (sym is)))
    at (inr e) None is later =
        ap (λ o. session_if k o (present (changed r h None phase) ks)) (changed_other r h None phase k e ∙ is)
        ∙ (later ∙ ap (λ o. without (session_if k o (present phase ks)) r h) (sym is))
    at (inr e) (Some p) is later =
        ap (λ o. session_if k o (present (changed r h None phase) ks)) (changed_other r h None phase k e ∙ is)
        ∙ (ap (λ xs. record { r = k.r; h = k.h; phase = p } ∷ xs) later
        ∙ (sym (cond-true (not (is_key r h k.r k.h)) (record { r = k.r; h = k.h; phase = p } ∷ without (present phase ks) r h) (without (present phase ks) r h) (ap not e))
        ∙ ap (λ o. without (session_if k o (present phase ks)) r h) (sym is)))

-- the sessions after an ask that nothing refuses
pub sessions_advanced : (a : Account) (ask : Ask) → reason (view_of a) (AskCall ask) ≡ None → sessions_of (advanced a (AskCall ask)) ≡ sessions_next (operation_of (view_of a) ask) (sessions_of a)
sessions_advanced a (Read r h) free =
    let clear = clear_of (read_lines (view_of a) r h) free in
    arrives_last r h Reader (phase_of a) (arrivals a.origin a.done) (none_of (phase_of a r h) clear.1.1.0)
sessions_advanced a (Announce r h) free =
    let clear = clear_of (announce_lines (view_of a) r h) free in
    arrives_last r h Waiting (phase_of a) (arrivals a.origin a.done) (none_of (phase_of a r h) clear.1.1.0)
sessions_advanced a (Quill r h) free =
    let clear = clear_of (write_lines (view_of a) r h) free in
    changes_there r h Waiting Writer (phase_of a) (arrivals a.origin a.done) (waits (phase_of a r h) clear.1.1.0 clear.1.1.1.0)
sessions_advanced a (Leave r h) free = leaves_gap r h (phase_of a) (arrivals a.origin a.done)
sessions_advanced a (Give r to seats) free = refl
sessions_advanced a (Help r) free = refl

pub sessions_asked : (a : Account) (ask : Ask) → reason (view_of a) (AskCall ask) ≡ None → sessions_of (after a (AskCall ask)) ≡ sessions_next (operation_of (view_of a) ask) (sessions_of a)
sessions_asked a ask free =
    ap (λ o. sessions_of (unless_refused o a (advanced a (AskCall ask)))) free ∙ sessions_advanced a ask free

-- each stored session is found, where none is stored twice
abbrev pub Once : List Session → Type 0
Once ss = (r h : ℕ) (p : Phase) → phase_in ss r h ≡ Some p → occurs r h (map key_of ss) ≡ 1

-- a holder that is in the list occurs in it
pub stored_occurs : (ss : List Session) (r h : ℕ) (p : Phase) → phase_in ss r h ≡ Some p → 1 ≤ occurs r h (map key_of ss)
stored_occurs [] r h p e = cc
stored_occurs (s ∷ ss) r h p e = at (cases_Bool (is_key r h s.r s.h)) (stored_occurs ss r h p)
  where
    at : (is_key r h s.r s.h ≡ true) ⊎ (is_key r h s.r s.h ≡ false) → (phase_in ss r h ≡ Some p → 1 ≤ occurs r h (map key_of ss)) → 1 ≤ occurs r h (map key_of (s ∷ ss))
    at (inl t) later = omega (arith, cond-true {A = ℕ} (is_key r h s.r s.h) 1 0 t)
    at (inr f) later = omega (arith, later (sym (cond-false (is_key r h s.r s.h) (Some s.phase) (phase_in ss r h) f) ∙ e))

pub later_once : (s : Session) (ss : List Session) → Once (s ∷ ss) → Once ss
later_once s ss once r h p e = at (cases_Bool (is_key r h s.r s.h))
  where
    at : (is_key r h s.r s.h ≡ true) ⊎ (is_key r h s.r s.h ≡ false) → occurs r h (map key_of ss) ≡ 1
    at (inl t) =
        let first = once r h s.phase (cond-true (is_key r h s.r s.h) (Some s.phase) (phase_in ss r h) t) in
        absurd (omega (arith, first, stored_occurs ss r h p e, cond-true {A = ℕ} (is_key r h s.r s.h) 1 0 t))
    at (inr f) =
        let first = once r h p (cond-false (is_key r h s.r s.h) (Some s.phase) (phase_in ss r h) f ∙ e) in
        omega (arith, first, cond-false {A = ℕ} (is_key r h s.r s.h) 1 0 f)

abbrev pub IsStored : (ℕ → ℕ → Option Phase) → Session → Type 0
IsStored phase s = phase s.r s.h ≡ Some s.phase

-- a session of a later place occurs there
all_occur : (ss : List Session) → AllByRecursion (λ s. 1 ≤ occurs s.r s.h (map key_of ss)) ss
all_occur ss = each ss ss (λ r h. omega arith)
  where
    each : (xs ys : List Session) → ((r h : ℕ) → occurs r h (map key_of ys) ≤ occurs r h (map key_of xs)) → AllByRecursion (λ s. 1 ≤ occurs s.r s.h (map key_of xs)) ys
    each xs [] less = tt
    each xs (y ∷ ys) less = (
      omega (arith, less y.r y.h, cond-true {A = ℕ} (is_key y.r y.h y.r y.h) 1 0 (is_key-refl y.r y.h)),
      each xs ys (λ r h. omega (arith, less r h)),
    )

pub move_all : {X : Type 0} (P Q : X → Type 0) → ((x : X) → P x → Q x) → (xs : List X) → AllByRecursion P xs → AllByRecursion Q xs
move_all P Q f [] all = tt
move_all P Q f (x ∷ xs) all = (f x all.0, move_all P Q f xs all.1)

both : {X : Type 0} (P Q : X → Type 0) (xs : List X) → AllByRecursion P xs → AllByRecursion Q xs → AllByRecursion (λ x. P x × Q x) xs
both P Q [] p q = tt
both P Q (x ∷ xs) p q = ((p.0, q.0), both P Q xs p.1 q.1)

pub all_stored : (ss : List Session) → Once ss → AllByRecursion (IsStored (phase_in ss)) ss
all_stored [] once = tt
all_stored (s ∷ ss) once = (
  cond-true (is_key s.r s.h s.r s.h) (Some s.phase) (phase_in ss s.r s.h) (is_key-refl s.r s.h),
  move_all (λ x. IsStored (phase_in ss) x × (1 ≤ occurs x.r x.h (map key_of ss))) (IsStored (phase_in (s ∷ ss))) later ss
      (both (IsStored (phase_in ss)) (λ x. 1 ≤ occurs x.r x.h (map key_of ss)) ss (all_stored ss (later_once s ss once)) (all_occur ss)),
)
  where
    later : (x : Session) → IsStored (phase_in ss) x × (1 ≤ occurs x.r x.h (map key_of ss)) → IsStored (phase_in (s ∷ ss)) x
    later x is = at (cases_Bool (is_key x.r x.h s.r s.h))
      where
        at : (is_key x.r x.h s.r s.h ≡ true) ⊎ (is_key x.r x.h s.r s.h ≡ false) → phase_in (s ∷ ss) x.r x.h ≡ Some x.phase
        at (inl t) =
            let first = once x.r x.h s.phase (cond-true (is_key x.r x.h s.r s.h) (Some s.phase) (phase_in ss x.r x.h) t) in
            absurd (omega (arith, first, is.1, cond-true {A = ℕ} (is_key x.r x.h s.r s.h) 1 0 t))
        at (inr f) = cond-false (is_key x.r x.h s.r s.h) (Some s.phase) (phase_in ss x.r x.h) f ∙ is.0

pub present_stored : (phase : ℕ → ℕ → Option Phase) (ss : List Session) → AllByRecursion (IsStored phase) ss → present phase (map key_of ss) ≡ ss
present_stored phase [] all = refl
present_stored phase (s ∷ ss) all =
    ap (λ o. session_if (key_of s) o (present phase (map key_of ss))) all.0 ∙ ap (λ xs. s ∷ xs) (present_stored phase ss all.1)

-- the sessions that a site begins with are those of its base, in their order
pub sessions_begun : (o : Origin) → IsOrigin o → sessions_of (begin o) ≡ o.base.sessions
sessions_begun o is = present_stored (phase_in o.base.sessions) o.base.sessions (all_stored o.base.sessions is.listed_once)
