-- What the map's entries, each with the number of its arrival, say of the list of sessions.
use Rattle.std.proofs.Common.{◌≡◌, ℕ, suc, ◌+◌, ◌<◌, Bool, true, false, cond, not, ◌||◌, if◌then◌else◌, List, [], ◌∷◌, ◌++◌, length, map, filter, get_or, position, Option, Some, None, IsPermutation, nat_eq, refl, sym, ap, ◌∙◌, subst, arith, add-one}
use Rattle.std.specs.List.{All, IsDistinct, AllByRecursion, list_any, swap_remove}
use Rattle.std.specs.Cmp.{nat_eq_equiv}
use Rattle.std.specs.Map.{keys_of, lookup, set_value}
use Rattle.std.specs.Option.{option_map}
use Rattle.std.specs.List.Sorted.{IsNonDecreasingBy}
use Rattle.std.proofs.lemmas.Option.{none-some, same_Some}
use Rattle.std.proofs.lemmas.Bool.Decides.{nat_tests}
use Rattle.std.proofs.lemmas.List.{get_or-map, get_or_default, map-append}
use Rattle.std.proofs.lemmas.List.Elements.{All-head, All-tail, All-push, All-weaker}
use Rattle.std.proofs.lemmas.List.Quantifiers.{position-Some}
use Rattle.std.proofs.lemmas.List.Sorted.{IsPermutation-map, IsPermutation-swap_remove, All-permutation, length_permutation}
use Rattle.std.proofs.lemmas.Map.{NonePasses, lookup-none}
use Rattle.std.proofs.lemmas.Map.Entries.{none_past_head}
use Rattle.std.proofs.lemmas.Map.Keys.{IsDistinct-IsPermutation, IsDistinct-push}
use Rattle.indexmap.specs.IndexMap.{insert_entry, swap_remove_entry}
use Rattle.indexmap.proofs.MapLemmas.{absent_from_lookup, insert_entry-absent, lookup_permutation, Found-position, Missing-position, swap_remove_entry-found, swap_remove_entry-missing}
use Rattle.session_list.specs.declared.session.Phase.{Phase}
use Rattle.session_list.specs.declared.session.Phase.TheVariants.{Reader}
use Rattle.session_list.specs.declared.session.Session.{Session}
use Rattle.session_list.specs.declared.sessions.Place.{Place}
use Rattle.session_list.specs.Sessions.{phase_in, with_phase, without, IsOnce}
use Rattle.session_list.specs.Order.{in_order}
use Rattle.session_list.specs.Kept.{Entry, number_of, session_of, sessions_by, same_key, IsNumbered}
use Rattle.session_list.proofs.SessionsLemmas.{same_key_laws, without-absent}
use Rattle.session_list.proofs.OrderLemmas.{IsBelow, filter_each, in_order-push, in_order-map, in_order-filter, in_order-IsPermutation, in_order-permutes, in_order-sorted}

-- what is kept of a session, in another phase
abbrev pub place_with : Phase → Place → Place
place_with p place = record place { phase = p }

-- ---- look-ups

-- the phase in the sessions of entries
phase_in-entries : (es : List Entry) (r h : ℕ) → phase_in (map session_of es) r h ≡ option_map (λ (p : Place). p.phase) (lookup (same_key (r, h)) es)
phase_in-entries [] r h = refl
phase_in-entries (e ∷ es) r h = by (same_key (r, h) e.0) (phase_in-entries es r h)
  where
    by : (b : Bool) → phase_in (map session_of es) r h ≡ option_map (λ (p : Place). p.phase) (lookup (same_key (r, h)) es)
        → (if b then Some e.1.phase else phase_in (map session_of es) r h) ≡ option_map (λ (p : Place). p.phase) (cond b (Some e.1) (lookup (same_key (r, h)) es))
    by true rest = refl
    by false rest = rest

-- distinct keys give sessions of which each pair stands once
IsOnce-entries : (es : List Entry) → IsDistinct same_key (keys_of es) → IsOnce (map session_of es)
unfolding IsDistinct
IsOnce-entries [] d = tt
IsOnce-entries (e ∷ es) d = (
  phase_in-entries es e.0.0 e.0.1 ∙ ap (option_map (λ (p : Place). p.phase)) (lookup-none (same_key e.0) es (none_past_head same_key_laws e.0 e es d (same_key_laws.refl e.0))),
  IsOnce-entries es d.1,
)

-- each number is below the next, entry by entry
below_each : (n : ℕ) (es : List Entry) → All (λ m. m < n) (map number_of es) → IsBelow number_of n es
below_each n [] below = tt
below_each n (e ∷ es) below = (All-head (λ m. m < n) (number_of e) (map number_of es) below, below_each n es (All-tail (λ m. m < n) (number_of e) (map number_of es) below))

-- another order of the entries
numbered-moved : (es fs : List Entry) (n : ℕ) → IsPermutation es fs → IsNumbered es n → IsNumbered fs n
numbered-moved es fs n moves is = record {
  unique = IsDistinct-IsPermutation same_key same_key_laws.symm (keys_of es) (keys_of fs) (IsPermutation-map (λ (e : Entry). e.0) es fs moves) is.unique;
  numbers = IsDistinct-IsPermutation nat_eq nat_eq_equiv.symm (map number_of es) (map number_of fs) (IsPermutation-map number_of es fs moves) is.numbers;
  below = All-permutation (λ m. m < n) (map number_of es) (map number_of fs) (IsPermutation-map number_of es fs moves) is.below;
}

-- the entries in order
module _ (es : List Entry) (n : ℕ) (is : IsNumbered es n) where
  moves : IsPermutation es (in_order number_of n es)
  moves = in_order-permutes number_of n es (below_each n es is.below)

  -- as many sessions as entries
  pub length-sessions_by : length (sessions_by es n) ≡ length es
  length-sessions_by = length-keys (in_order number_of n es) ∙ length_permutation es (in_order number_of n es) moves
    where
      length-keys : (fs : List Entry) → length (map session_of fs) ≡ length fs
      length-keys [] = refl
      length-keys (f ∷ fs) = ap suc (length-keys fs)

  -- the map's answer is that of the list
  pub phase_in-sessions_by : (r h : ℕ) → phase_in (sessions_by es n) r h ≡ option_map (λ (p : Place). p.phase) (lookup (same_key (r, h)) es)
  phase_in-sessions_by r h =
      phase_in-entries (in_order number_of n es) r h
      ∙ ap (option_map (λ (p : Place). p.phase)) (lookup_permutation same_key_laws es (in_order number_of n es) moves (numbered-moved es (in_order number_of n es) n moves is).unique (same_key (r, h)) (same_key_laws.congr (r, h)))

  pub IsOnce-sessions_by : IsOnce (sessions_by es n)
  IsOnce-sessions_by = IsOnce-entries (in_order number_of n es) (numbered-moved es (in_order number_of n es) n moves is).unique

  -- a sort by the numbers gives the list
  pub sorted-sessions_by : (fs : List Entry) → IsPermutation es fs → IsNonDecreasingBy number_of fs → map session_of fs ≡ sessions_by es n
  sorted-sessions_by fs to up =
      let there = numbered-moved es fs n to is in
      ap (map session_of) (sym (in_order-sorted number_of n fs up (below_each n fs there.below)) ∙ in_order-IsPermutation number_of n es fs to is.numbers)

-- ---- an arrival

module _ (es : List Entry) (n : ℕ) (is : IsNumbered es n) (k : ℕ × ℕ) (place : Place) (next : place.arrived ≡ n) where
  none_has : (ms : List ℕ) → All (λ m. m < n) ms → list_any (nat_eq n) ms ≡ false
  none_has [] below = refl
  none_has (m ∷ ms) below =
      let less : m < n = All-head (λ j. j < n) m ms below in
      let apart : nat_eq n m ≡ false = grind (arith, nat_tests) in
      ap (λ b. b || list_any (nat_eq n) ms) apart ∙ none_has ms (All-tail (λ j. j < n) m ms below)

  pub numbered-push : IsDistinct same_key (keys_of (es ++ (k, place) ∷ [])) → IsNumbered (es ++ (k, place) ∷ []) (n + 1)
  numbered-push unique =
      let at_end : map number_of (es ++ (k, place) ∷ []) ≡ map number_of es ++ n ∷ [] = map-append number_of es ((k, place) ∷ []) ∙ ap (λ m. map number_of es ++ m ∷ []) next in
      record {
        unique = unique;
        numbers = subst (IsDistinct nat_eq) (sym at_end) (IsDistinct-push nat_eq_equiv (map number_of es) n is.numbers (none_has (map number_of es) is.below));
        below = subst (All (λ m. m < n + 1)) (sym at_end) (All-push (λ m. m < n + 1) (map number_of es) n (All-weaker (λ m. m < n) (λ m. m < n + 1) (λ m h. omega arith) (map number_of es) is.below) (omega arith));
      }

  pub sessions_by-push : sessions_by (es ++ (k, place) ∷ []) (n + 1) ≡ sessions_by es n ++ session_of (k, place) ∷ []
  sessions_by-push =
      ap (sessions_by (es ++ (k, place) ∷ [])) (add-one n)
      ∙ ap (map session_of) (in_order-push number_of n es (k, place) (below_each n es is.below) next)
      ∙ map-append session_of (in_order number_of n es) ((k, place) ∷ [])

-- ---- a change of phase

module _ (k : ℕ × ℕ) (p : Phase) where
  -- the entry under the key in the phase, and others as they are
  abbrev renewed : Entry → Entry
  renewed e = if same_key k e.0 then (e.0, place_with p e.1) else e

  renewed-key : (e : Entry) → (renewed e).0 ≡ e.0
  renewed-key e = by (same_key k e.0)
    where
      by : (b : Bool) → (let f : Entry = if b then (e.0, place_with p e.1) else e in f.0) ≡ e.0
      by true = refl
      by false = refl

  renewed-number : (e : Entry) → number_of (renewed e) ≡ number_of e
  renewed-number e = by (same_key k e.0)
    where
      by : (b : Bool) → number_of (if b then (e.0, place_with p e.1) else e) ≡ number_of e
      by true = refl
      by false = refl

  -- where the key is absent, nothing changes
  renewed-absent : (es : List Entry) → NonePasses (same_key k) es → map renewed es ≡ es
  renewed-absent [] none = refl
  renewed-absent (e ∷ es) none = λ j. (if none.0 j then (e.0, place_with p e.1) else e) ∷ renewed-absent es none.1 j

  -- what a write under the key does, where the keys are distinct
  set_value-renewed : (es : List Entry) (place : Place) → IsDistinct same_key (keys_of es) → lookup (same_key k) es ≡ Some place → set_value (same_key k) es (place_with p place) ≡ map renewed es
  unfolding IsDistinct
  set_value-renewed [] place d found = grind arith
  set_value-renewed (e ∷ es) place d found = by (set_value-renewed es place d.1) (same_key k e.0) refl
    where
      by : (lookup (same_key k) es ≡ Some place → set_value (same_key k) es (place_with p place) ≡ map renewed es) → (b : Bool) → same_key k e.0 ≡ b → set_value (same_key k) (e ∷ es) (place_with p place) ≡ map renewed (e ∷ es)
      by rest true is =
          let here : e.1 ≡ place = same_Some e.1 place (sym (ap (λ b. cond b (Some e.1) (lookup (same_key k) es)) is) ∙ found) in
          ap (λ b. cond b ((e.0, place_with p place) ∷ es) (e ∷ set_value (same_key k) es (place_with p place))) is
          ∙ (λ j. (e.0, place_with p (sym here j)) ∷ sym (renewed-absent es (none_past_head same_key_laws k e es d is)) j)
          ∙ sym (ap (λ b. (if b then (e.0, place_with p e.1) else e) ∷ map renewed es) is)
      by rest false is =
          let later = sym (ap (λ b. cond b (Some e.1) (lookup (same_key k) es)) is) ∙ found in
          ap (λ b. cond b ((e.0, place_with p place) ∷ es) (e ∷ set_value (same_key k) es (place_with p place))) is
          ∙ ap (λ l. e ∷ l) (rest later)
          ∙ sym (ap (λ b. (if b then (e.0, place_with p e.1) else e) ∷ map renewed es) is)

  keys-renewed : (es : List Entry) → keys_of (map renewed es) ≡ keys_of es
  keys-renewed [] = refl
  keys-renewed (e ∷ es) = λ j. renewed-key e j ∷ keys-renewed es j

  numbers-renewed : (es : List Entry) → map number_of (map renewed es) ≡ map number_of es
  numbers-renewed [] = refl
  numbers-renewed (e ∷ es) = λ j. renewed-number e j ∷ numbers-renewed es j

  sessions-renewed : (es : List Entry) → map session_of (map renewed es) ≡ with_phase (map session_of es) k.0 k.1 p
  sessions-renewed [] = refl
  sessions-renewed (e ∷ es) = λ j. by (same_key k e.0) j ∷ sessions-renewed es j
    where
      by : (b : Bool) → session_of (if b then (e.0, place_with p e.1) else e) ≡ (if b then record (session_of e) { phase = p } else session_of e)
      by true = refl
      by false = refl

  module _ (es : List Entry) (n : ℕ) (is : IsNumbered es n) (place : Place) (found : lookup (same_key k) es ≡ Some place) where
    renews : set_value (same_key k) es (place_with p place) ≡ map renewed es
    renews = set_value-renewed es place is.unique found

    pub numbered-set_value : IsNumbered (set_value (same_key k) es (place_with p place)) n
    numbered-set_value = subst (λ fs. IsNumbered fs n) (sym renews) (record {
      unique = subst (IsDistinct same_key) (sym (keys-renewed es)) is.unique;
      numbers = subst (IsDistinct nat_eq) (sym (numbers-renewed es)) is.numbers;
      below = subst (All (λ m. m < n)) (sym (numbers-renewed es)) is.below;
    })

    pub sessions_by-set_value : sessions_by (set_value (same_key k) es (place_with p place)) n ≡ with_phase (sessions_by es n) k.0 k.1 p
    sessions_by-set_value =
        ap (λ fs. sessions_by fs n) renews
        ∙ ap (map session_of) (in_order-map number_of renewed renewed-number n es)
        ∙ sessions-renewed (in_order number_of n es)

-- ---- a leave

-- the entries that a key leaves are the sessions that it leaves
without-entries : (r h : ℕ) (es : List Entry) → map session_of (filter (λ e. not (same_key (r, h) e.0)) es) ≡ without (map session_of es) r h
without-entries r h [] = refl
without-entries r h (e ∷ es) = by (same_key (r, h) e.0) (without-entries r h es)
  where
    by : (b : Bool) → map session_of (filter (λ f. not (same_key (r, h) f.0)) es) ≡ without (map session_of es) r h
        → map session_of (cond (not b) (e ∷ filter (λ f. not (same_key (r, h) f.0)) es) (filter (λ f. not (same_key (r, h) f.0)) es)) ≡ cond (not b) (session_of e ∷ without (map session_of es) r h) (without (map session_of es) r h)
    by true rest = rest
    by false rest = ap (λ l. session_of e ∷ l) rest

all_stay : (k : ℕ × ℕ) (es : List Entry) → NonePasses (same_key k) es → AllByRecursion (λ e. not (same_key k e.0) ≡ true) es
all_stay k [] none = tt
all_stay k (e ∷ es) none = (ap not none.0, all_stay k es none.1)

-- what a leave leaves
pub record Leaves (r h : ℕ) (es left : List Entry) (n : ℕ) : Type 0 where
  pub numbered : IsNumbered left n
  pub sessions : sessions_by left n ≡ without (sessions_by es n) r h

-- where the entry that leaves stands first, and the others after it in any order
leaves_first : (r h : ℕ) (es left : List Entry) (e : Entry) (n : ℕ) → IsNumbered es n → IsPermutation es (e ∷ left) → same_key (r, h) e.0 ≡ true → Leaves r h es left n
unfolding IsDistinct
leaves_first r h es left e n is moves own =
    let there = numbered-moved es (e ∷ left) n moves is in
    let test : Entry → Bool = λ f. not (same_key (r, h) f.0) in
    let stay : filter test (e ∷ left) ≡ left =
    ap (λ b. cond (not b) (e ∷ filter test left) (filter test left)) own
    ∙ filter_each test left (all_stay (r, h) left (none_past_head same_key_laws (r, h) e left there.unique own)) in
    record {
      numbered = record {
        unique = there.unique.1;
        numbers = there.numbers.1;
        below = All-tail (λ m. m < n) (number_of e) (map number_of left) there.below;
      };
      sessions = sym (
          ap (λ fs. without (map session_of fs) r h) (sym (in_order-IsPermutation number_of n es (e ∷ left) moves is.numbers))
          ∙ sym (without-entries r h (in_order number_of n (e ∷ left)))
          ∙ ap (map session_of) (sym (in_order-filter number_of test n (e ∷ left)) ∙ ap (in_order number_of n) stay)
          );
    }

-- a removal by a swap with the last entry
pub leaves : (r h : ℕ) (es : List Entry) (n : ℕ) → IsNumbered es n → Leaves r h es (swap_remove_entry (same_key (r, h)) es) n
leaves r h es n is = by (position (same_key (r, h)) (keys_of es)) refl
  where
    none : Entry
    none = ((r, h), record { phase = Reader; arrived = 0 })

    by : (o : Option ℕ) → position (same_key (r, h)) (keys_of es) ≡ o → Leaves r h es (swap_remove_entry (same_key (r, h)) es) n
    by None at =
        let absent = (Missing-position (same_key (r, h)) es at).value in
        let same = swap_remove_entry-missing (same_key (r, h)) es at in
        record {
          numbered = subst (λ fs. IsNumbered fs n) (sym same) is;
          sessions = ap (λ fs. sessions_by fs n) same ∙ sym (without-absent (sessions_by es n) r h (phase_in-sessions_by es n is r h ∙ ap (option_map (λ (p : Place). p.phase)) absent));
        }
    by (Some i) at =
        let within = (Found-position (same_key (r, h)) es i at).within in
        let e : Entry = get_or es i none in
        let read : e ≡ get_or es i e = get_or_default es i none e within in
        let own : same_key (r, h) e.0 ≡ true = ap (same_key (r, h)) (sym (get_or-map (λ (f : Entry). f.0) es i none (r, h) within)) ∙ (position-Some (same_key (r, h)) (keys_of es) i (r, h) at).1 in
        subst (λ fs. Leaves r h es fs n) (sym (swap_remove_entry-found (same_key (r, h)) es i e at))
        (leaves_first r h es (swap_remove es i e) e n is (IsPermutation-swap_remove es i e within read) own)

-- ---- the start

-- no entry is numbered before the first arrival
pub numbered_empty : (es : List Entry) → es ≡ [] → IsNumbered es 0
unfolding IsDistinct
numbered_empty es none = subst (λ l. IsNumbered l 0) (sym none) (record { unique = tt; numbers = tt; below = λ i d h. absurd (omega arith) })

-- and no session is listed
pub sessions_empty : (es : List Entry) → sessions_by es 0 ≡ []
unfolding in_order
sessions_empty es = refl

-- ---- the calls that change the map

-- where the list has no session of a pair, the map has no entry
lookup-absent : (es : List Entry) (n : ℕ) → IsNumbered es n → (r h : ℕ) → phase_in (sessions_by es n) r h ≡ None → lookup (same_key (r, h)) es ≡ None
lookup-absent es n is r h absent = by (lookup (same_key (r, h)) es) (sym (phase_in-sessions_by es n is r h) ∙ absent)
  where
    by : (o : Option Place) → option_map (λ (p : Place). p.phase) o ≡ None → o ≡ None
    by None e = refl
    by (Some p) e = absurd (none-some p.phase (sym e))

-- what an arrival makes of the entries
pub record Arrives (es fs : List Entry) (n : ℕ) (s : Session) : Type 0 where
  pub numbered : IsNumbered fs (n + 1)
  pub sessions : sessions_by fs (n + 1) ≡ sessions_by es n ++ s ∷ []

pub arrives : (es fs : List Entry) (n : ℕ) (r h : ℕ) (p : Phase) → IsNumbered es n → phase_in (sessions_by es n) r h ≡ None
    → fs ≡ insert_entry same_key es (r, h) (record { phase = p; arrived = n }) → IsDistinct same_key (keys_of fs)
    → Arrives es fs n (record { r = r; h = h; phase = p })
arrives es fs n r h p is absent inserted unique =
    let place : Place = record { phase = p; arrived = n } in
    let last : fs ≡ es ++ ((r, h), place) ∷ [] = inserted ∙ insert_entry-absent same_key (r, h) place es (absent_from_lookup (same_key (r, h)) es (lookup-absent es n is r h absent)) in
    subst (λ l. Arrives es l n (record { r = r; h = h; phase = p })) (sym last) (record {
      numbered = numbered-push es n is (r, h) place refl (subst (λ l. IsDistinct same_key (keys_of l)) last unique);
      sessions = sessions_by-push es n is (r, h) place refl;
    })

-- what a change of phase makes of the entries
pub record Renews (es fs : List Entry) (n r h : ℕ) (p : Phase) : Type 0 where
  pub numbered : IsNumbered fs n
  pub sessions : sessions_by fs n ≡ with_phase (sessions_by es n) r h p

pub renews_under : (es fs : List Entry) (n r h : ℕ) (p : Phase) (place : Place) → IsNumbered es n → lookup (same_key (r, h)) es ≡ Some place
    → fs ≡ set_value (same_key (r, h)) es (place_with p place) → Renews es fs n r h p
renews_under es fs n r h p place is found wrote = subst (λ l. Renews es l n r h p) (sym wrote) (record {
  numbered = numbered-set_value (r, h) p es n is place found;
  sessions = sessions_by-set_value (r, h) p es n is place found;
})
