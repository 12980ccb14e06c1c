-- Who goes first leaves, one after the other.
use Rattle.std.proofs.Common.{◌≡◌, ◌≢◌, ℕ, zero, suc, ◌+◌, ◌<◌, ◌≤◌, ◌⊎◌, inl, inr, true, false, cond, eqb, ltb, List, [], ◌∷◌, ◌++◌, length, Option, Some, None, refl, sym, ap, subst, ◌∙◌, arith}
use Rattle.std.specs.Prelude.{is_none}
use Rattle.std.proofs.lemmas.Bool.{cases_eq, cases_lt, cases_Bool, eqb-true, eq-eqb, ne_eqb, lt-leb, le-ltb, cond-true, cond-false, and_right}
use Rattle.merge_core.specs.Counts.{counter_limit}
use Rattle.merge_core.specs.declared.cell.Cell.TheVariants.{Out, Taken}
use Rattle.session_list.specs.declared.session.Phase.{Phase}
use Rattle.session_list.specs.declared.session.Phase.TheVariants.{Reader, Waiting, Writer}
use Rattle.session_list.specs.declared.session.Session.{Session}
use Rattle.admission_model.specs.declared.ask.Ask.TheVariants.{Leave}
use Rattle.admission_model.specs.declared.ask.Call.TheVariants.{Ask as AskCall}
use Rattle.admission_model.specs.declared.operation.Operation.TheVariants.{LeftRecord}
use Rattle.admission_model.specs.Account.{Account, Key, is_key, seats_in, own, phase_of, sessions_of, session_total, arrivals, on_phase, weight}
use Rattle.admission_model.specs.View.{view_of}
use Rattle.admission_model.specs.Replies.{holder_limit, leave_lines}
use Rattle.admission_model.specs.Serving.{advanced, unless_refused, after}
use Rattle.admission_model.specs.Sound.{IsSound}
use Rattle.admission_model.proofs.KeyLemmas.{keys_total}
use Rattle.admission_model.proofs.CounterLemmas.{does, own_here}
use Rattle.admission_model.proofs.ServingLemmas.{first_reason-none}
use Rattle.admission_model.proofs.SessionLemmas.{adds, sessions-keys, session_changes}
use Rattle.multi_site_world.specs.declared.event.Event.{Event}
use Rattle.multi_site_world.specs.declared.event.Event.TheVariants.{Call}
use Rattle.multi_site_world.specs.World.{World, account_at, with_account, happens, run}
use Rattle.rebuild_laws.proofs.TellingLemmas.{run_append}
use Rattle.multi_site_world.proofs.WorldLemmas.{IsSoundWorld, same_account, other_account}
use Rattle.multi_site_world.proofs.EventLemmas.{sound_happens}
use Rattle.fencing_laws.specs.Entering.{GoesFirst, AreFair}
use Rattle.fencing_laws.proofs.FenceLemmas.{happens_here}

-- some fair events lead to a world of which P holds
pub record Leads (r w : ℕ) (P : World → Type 0) (u : World) : Type 0 where
  pub events : List Event
  pub fair : AreFair r w events u
  pub reaches : P (run events u)

fair_append : (r w : ℕ) (xs ys : List Event) (u : World) → AreFair r w xs u → AreFair r w ys (run xs u) → AreFair r w (xs ++ ys) u
fair_append r w [] ys u first second = second
fair_append r w (x ∷ xs) ys u first second = (first.0, fair_append r w xs ys (happens u x) first.1 second)

pub stays : (r w : ℕ) (P : World → Type 0) (u : World) → P u → Leads r w P u
stays r w P u here = record { events = []; fair = tt; reaches = here }

pub leads_on : (r w : ℕ) (P Q : World → Type 0) (u : World) → Leads r w P u → ((v : World) → P v → Leads r w Q v) → Leads r w Q u
leads_on r w P Q u first later =
    let second = later (run first.events u) first.reaches in
    record {
      events = first.events ++ second.events;
      fair = fair_append r w first.events second.events u first.fair second.fair;
      reaches = subst Q (sym (run_append first.events second.events u)) second.reaches;
    }

-- what holds of the world all the way: the writer waits, and there is room
pub record IsReady (n r w h : ℕ) (v : World) : Type 0 where
  pub sound : IsSoundWorld v
  pub sites : v.layout.sites ≡ n
  pub there : w < n
  pub record_there : r < length v.layout.records
  pub waits : phase_of (account_at v w) r h ≡ Some Waiting
  pub all_known : (i : ℕ) → i < n → (account_at v i).sites ≡ n
  pub room : own (account_at v w) r Taken + seats_in v.layout r ≤ counter_limit
  pub rooms : (i : ℕ) → i < n → i ≢ w → own (account_at v i) r (Out w) + seats_in v.layout r ≤ counter_limit

-- 1 for each session that goes first
abbrev pub goes : ℕ → ℕ → Phase → ℕ
goes w i Reader = 1
goes w i Waiting = cond (ltb i w) 1 0
goes w i Writer = 1

-- how many are there still
abbrev pub left_at : ℕ → ℕ → World → ℕ → ℕ
left_at r w v i = session_total (goes w i) r (sessions_of (account_at v i))

goes_first : (w i : ℕ) (o : Option Phase) → 1 ≤ on_phase (goes w i) o → GoesFirst w i o
goes_first w i None some = absurd (omega arith)
goes_first w i (Some Reader) some = tt
goes_first w i (Some Waiting) some = at (cases_lt i w)
  where
    at : (i < w) ⊎ (w ≤ i) → i < w
    at (inl lower) = lower
    at (inr past) = absurd (omega (arith, some, cond-false {A = ℕ} (ltb i w) 1 0 (le-ltb i w past)))
goes_first w i (Some Writer) some = tt

-- where the sum is above 0 there is one
find : (value : Phase → ℕ) (r : ℕ) (phase : ℕ → ℕ → Option Phase) (ks : List Key) → 1 ≤ keys_total (adds value r phase) ks → (h : ℕ) × (1 ≤ on_phase value (phase r h))
find value r phase [] some = absurd (omega arith)
find value r phase (k ∷ ks) some = at (cases_lt 0 (adds value r phase k.r k.h)) (find value r phase ks)
  where
    here : (eqb k.r r ≡ true) ⊎ (eqb k.r r ≡ false) → 0 < adds value r phase k.r k.h → (h : ℕ) × (1 ≤ on_phase value (phase r h))
    here (inl e) above =
        (k.h, omega (arith, above, cond-true (eqb k.r r) (on_phase value (phase k.r k.h)) 0 e, ap (λ x. on_phase value (phase x k.h)) (eqb-true k.r r e)))
    here (inr e) above = absurd (omega (arith, above, cond-false (eqb k.r r) (on_phase value (phase k.r k.h)) 0 e))

    at : (0 < adds value r phase k.r k.h) ⊎ (adds value r phase k.r k.h ≤ 0) → (1 ≤ keys_total (adds value r phase) ks → (h : ℕ) × (1 ≤ on_phase value (phase r h))) → (h : ℕ) × (1 ≤ on_phase value (phase r h))
    at (inl above) later = here (cases_Bool (eqb k.r r)) above
    at (inr none) later = later (omega (arith, some, none))

-- one that goes first leaves
accepted : (a : Account) (r k : ℕ) (p : Phase) → IsSound a → phase_of a r k ≡ Some p → after a (AskCall (Leave r k)) ≡ does (LeftRecord r k) a
accepted a r k p sound there =
    ap (λ o. unless_refused o a (advanced a (AskCall (Leave r k))))
    (first_reason-none (leave_lines (view_of a) r k) (lt-leb (length a.origin.layout.records) r (sound.record_there r k p there), (le-ltb holder_limit k (sound.holder_there r k p there), (ap is_none there, tt))))

abbrev pub gone : World → ℕ → ℕ → ℕ → World
gone v r i k = with_account v i (does (LeftRecord r k) (account_at v i))

pub is_gone : (v : World) (r i k : ℕ) (p : Phase) → IsSoundWorld v → i < v.layout.sites → phase_of (account_at v i) r k ≡ Some p → happens v (Call i (Leave r k)) ≡ gone v r i k
is_gone v r i k p sound below there =
    happens_here v (Call i (Leave r k)) sound below ∙ ap (with_account v i) (accepted (account_at v i) r k p (sound.family.sound i below) there)

-- a fact of an account and its number, at every site
pub at_sites_of : (v : World) (i : ℕ) (b : Account) → IsSoundWorld v → i < v.layout.sites → (P : ℕ → Account → Type 0) → P i b → ((j : ℕ) → j ≢ i → P j (account_at v j)) → (j : ℕ) → P j (account_at (with_account v i b) j)
at_sites_of v i b sound below P here other j = at (cases_eq j i)
  where
    at : (j ≡ i) ⊎ (j ≡ i → ⊥) → P j (account_at (with_account v i b) j)
    at (inl e) =
        subst (λ (x : ℕ). P x (account_at (with_account v i b) x)) (sym e)
        (subst (P i) (sym (same_account v i b (omega (arith, sound.number)))) here)
    at (inr ne) = subst (P j) (sym (other_account v i j b ne)) (other j ne)

some_phase : (w i : ℕ) (o : Option Phase) → GoesFirst w i o → (p : Phase) × (o ≡ Some p)
some_phase w i None out = elim out [ ]
some_phase w i (Some p) first = (p, refl)

ready_gone : (n r w h i k : ℕ) (v : World) → IsReady n r w h v → i < n → GoesFirst w i (phase_of (account_at v i) r k) → IsReady n r w h (gone v r i k)
ready_gone n r w h i k v is below first = record {
  sound = subst IsSoundWorld (is_gone v r i k p is.sound below_v there) (sound_happens v (Call i (Leave r k)) is.sound);
  sites = is.sites;
  there = is.there;
  record_there = is.record_there;
  waits = all (λ j a. j ≡ w → phase_of a r h ≡ Some Waiting) still (λ j ne e. ap (λ x. phase_of (account_at v x) r h) e ∙ is.waits) w refl;
  all_known = λ j lower. all (λ j a. j < n → a.sites ≡ n) (λ lower. is.all_known i lower) (λ j ne lower. is.all_known j lower) j lower;
  room = all (λ j a. j ≡ w → own a r Taken + seats_in v.layout r ≤ counter_limit)
      (λ e. omega (arith, own_here a0 (LeftRecord r k) Taken, is.room, ap (λ x. own (account_at v x) r Taken) e)) (λ j ne e. omega (arith, is.room, ap (λ x. own (account_at v x) r Taken) e)) w refl;
  rooms = λ j lower apart. all (λ j a. j < n → j ≢ w → own a r (Out w) + seats_in v.layout r ≤ counter_limit)
      (λ lower apart. omega (arith, is.rooms i lower apart, own_here a0 (LeftRecord r k) (Out w), cond-false (eqb w a0.origin.site) (on_phase (weight (seats_in a0.origin.layout r)) (phase_of a0 r k)) 0 (ne_eqb w a0.origin.site (λ e. apart (sym (e ∙ is.sound.family.same_site i below_v))))))
      (λ j ne lower apart. is.rooms j lower apart) j lower apart;
}
  where
    below_v : i < v.layout.sites
    below_v = omega (arith, is.sites)

    a0 : Account
    a0 = account_at v i

    p : Phase
    p = (some_phase w i (phase_of (account_at v i) r k) first).0

    there : phase_of (account_at v i) r k ≡ Some p
    there = (some_phase w i (phase_of (account_at v i) r k) first).1

    all : (P : ℕ → Account → Type 0) → P i (does (LeftRecord r k) (account_at v i)) → ((j : ℕ) → j ≢ i → P j (account_at v j)) → (j : ℕ) → P j (account_at (gone v r i k) j)
    all = at_sites_of v i (does (LeftRecord r k) (account_at v i)) is.sound below_v

    -- the writer itself does not go
    not_it : i ≡ w → k ≢ h
    not_it e same =
        let waits_here : phase_of (account_at v i) r k ≡ Some Waiting = ap (λ x. phase_of (account_at v x) r k) e ∙ (ap (phase_of (account_at v w) r) same ∙ is.waits) in
        let lower : i < w = subst (GoesFirst w i) waits_here first in
        absurd (omega (arith, lower, e))

    still : i ≡ w → phase_of (does (LeftRecord r k) (account_at v i)) r h ≡ Some Waiting
    still e =
        cond-false (is_key r k r h) None (phase_of (account_at v i) r h) (and_right (eqb r r) (eqb k h) (ne_eqb k h (not_it e)))
        ∙ (ap (λ x. phase_of (account_at v x) r h) e ∙ is.waits)

fewer : (n r w h i k : ℕ) (v : World) → IsReady n r w h v → i < n → 1 ≤ on_phase (goes w i) (phase_of (account_at v i) r k) → left_at r w (gone v r i k) i < left_at r w v i
fewer n r w h i k v is below some =
    let a = account_at v i in
    let value = goes w i in
    let below_v : i < v.layout.sites = omega (arith, is.sites) in
    let p = some_phase w i (phase_of a r k) (goes_first w i (phase_of a r k) some) in
    omega (
      arith,
      ap (λ b. session_total value r (sessions_of b)) (same_account v i (does (LeftRecord r k) a) (omega (arith, is.sound.number))),
      session_changes value r r k None (phase_of a) (arrivals a.origin a.done) ((is.sound.family.sound i below_v).listed_once r k p.0 p.1),
      cond-true (eqb r r) (on_phase value (phase_of a r k)) 0 (eq-eqb r r refl),
      cond-true {A = ℕ} (eqb r r) 0 0 (eq-eqb r r refl),
      some,
    )

-- nobody who goes first is left at a site, and the others are as they were
pub record IsSiteCleared (n r w h i : ℕ) (v x : World) : Type 0 where
  pub ready : IsReady n r w h x
  pub none : left_at r w x i ≡ 0
  pub rest : (j : ℕ) → j ≢ i → account_at x j ≡ account_at v j

clear_site : (fuel n r w h i : ℕ) (v : World) → IsReady n r w h v → i < n → left_at r w v i ≤ fuel → Leads r w (IsSiteCleared n r w h i v) v
clear_site zero n r w h i v is below most =
    stays r w (IsSiteCleared n r w h i v) v (record { ready = is; none = omega (arith, most); rest = λ j ne. refl })
clear_site (suc fuel) n r w h i v is below most = at (cases_lt 0 (left_at r w v i)) (clear_site fuel n r w h i)
  where
    a : Account
    a = account_at v i

    at : (0 < left_at r w v i) ⊎ (left_at r w v i ≤ 0) → ((x : World) → IsReady n r w h x → i < n → left_at r w x i ≤ fuel → Leads r w (IsSiteCleared n r w h i x) x) → Leads r w (IsSiteCleared n r w h i v) v
    at (inr none) next = stays r w (IsSiteCleared n r w h i v) v (record { ready = is; none = omega (arith, none); rest = λ j ne. refl })
    at (inl some) next =
        let it = find (goes w i) r (phase_of a) (arrivals a.origin a.done) (omega (arith, some, sessions-keys (goes w i) r (phase_of a) (arrivals a.origin a.done))) in
        let k = it.0 in
        let first = goes_first w i (phase_of a r k) it.1 in
        let p = some_phase w i (phase_of a r k) first in
        let below_v : i < v.layout.sites = omega (arith, is.sites) in
        let now = is_gone v r i k p.0 is.sound below_v p.1 in
        let later = next (gone v r i k) (ready_gone n r w h i k v is below first) below (omega (arith, most, fewer n r w h i k v is below it.1)) in
        record {
          events = Call i (Leave r k) ∷ later.events;
          fair = ((refl, first), subst (AreFair r w later.events) (sym now) later.fair);
          reaches = subst (λ (x : World). IsSiteCleared n r w h i v (run later.events x)) (sym now) (record {
            ready = later.reaches.ready;
            none = later.reaches.none;
            rest = λ j ne. later.reaches.rest j ne ∙ other_account v i j (does (LeftRecord r k) (account_at v i)) ne;
          });
        }

-- nobody who goes first is left at the first sites
pub record AreCleared (n r w h m : ℕ) (x : World) : Type 0 where
  pub ready : IsReady n r w h x
  pub none : (i : ℕ) → i < m → left_at r w x i ≡ 0

pub clear_all : (m n r w h : ℕ) (v : World) → IsReady n r w h v → m ≤ n → Leads r w (AreCleared n r w h m) v
clear_all zero n r w h v is few = stays r w (AreCleared n r w h zero) v (record { ready = is; none = λ i below. absurd (omega arith) })
clear_all (suc m) n r w h v is few =
    leads_on r w (AreCleared n r w h m) (AreCleared n r w h (suc m)) v (clear_all m n r w h v is (omega arith)) (λ x cleared.
    leads_on r w (IsSiteCleared n r w h m x) (AreCleared n r w h (suc m)) x (clear_site (left_at r w x m) n r w h m x cleared.ready (omega arith) (omega arith)) (λ y here.
    stays r w (AreCleared n r w h (suc m)) y (record { ready = here.ready; none = λ i below. none_of_these x y cleared here i below (cases_eq i m) })))
  where
    none_of_these : (x y : World) → AreCleared n r w h m x → IsSiteCleared n r w h m x y → (i : ℕ) → i < suc m → (i ≡ m) ⊎ (i ≡ m → ⊥) → left_at r w y i ≡ 0
    none_of_these x y cleared here i below (inl e) = ap (left_at r w y) e ∙ here.none
    none_of_these x y cleared here i below (inr ne) =
        ap (λ b. session_total (goes w i) r (sessions_of b)) (here.rest i ne) ∙ cleared.none i (omega arith)

-- where none of one sum is, none of another is
pub no_sessions : (f g : Phase → ℕ) (r : ℕ) → ((p : Phase) → g p ≡ 0 → f p ≡ 0) → (ss : List Session) → session_total g r ss ≡ 0 → session_total f r ss ≡ 0
no_sessions f g r less [] none = refl
no_sessions f g r less (s ∷ ss) none = at (cases_Bool (eqb s.r r)) (no_sessions f g r less ss (omega (arith, none)))
  where
    at : (eqb s.r r ≡ true) ⊎ (eqb s.r r ≡ false) → session_total f r ss ≡ 0 → session_total f r (s ∷ ss) ≡ 0
    at (inl e) later = omega (arith, none, later, cond-true (eqb s.r r) (g s.phase) 0 e, cond-true (eqb s.r r) (f s.phase) 0 e, less s.phase (omega (arith, none, cond-true (eqb s.r r) (g s.phase) 0 e)))
    at (inr e) later = omega (arith, later, cond-false (eqb s.r r) (f s.phase) 0 e)
