-- What an index's maps have, as the lists of a content have it.
use Rattle.std.proofs.Common.{◌≡◌, inl, inr, ℕ, zero, suc, ◌+◌, ◌-◌, ◌<◌, ◌≤◌, Bool, true, false, cond, max, List, [], ◌∷◌, ◌++◌, length, drop, take, get_or, Option, Some, None, is_some, IfSome, Result, Ok, Err, IsOk, OnOk, refl, sym, ap, subst, ◌∙◌, arith, true≢false}
use Rattle.std.specs.List.{All, AllByRecursion, IsDistinct, fold}
use Rattle.std.specs.Cmp.{IsEquivalence, on_equiv, and_equiv, nat_eq_equiv}
use Rattle.std.specs.Map.{keys_of, lookup, values_of}
use Rattle.std.proofs.Math.Seq.{drop-cons}
use Rattle.std.proofs.lemmas.Bool.{cases_Bool}
use Rattle.std.proofs.lemmas.Bool.Decides.{nat_tests}
use Rattle.std.proofs.lemmas.List.{take_more}
use Rattle.std.proofs.lemmas.Map.Views.{All-values_from_lookup}
use Rattle.store_rows.specs.declared.content.StoredNotice.{StoredNotice}
use Rattle.store_rows.specs.declared.content.StoredSession.{StoredSession}
use Rattle.store_rows.specs.Rows.{notice_before}
use Rattle.store_rows.specs.Sorted.{put, put_all}
use Rattle.store_content.specs.Content.{IsOnce, greatest_place, notice_in, place_in}
use Rattle.store_content.specs.Known.{greatest_value, same_key}

-- what an answer that is `Ok` says
pub at_ok : {T E : Type 0} (r : Result T E) (P : Type 0) → IsOk r → OnOk r P → P
at_ok (Ok x) P ok on = on
at_ok (Err e) P ok on = absurd (true≢false (sym ok))

-- what an answer that is `Some` says
pub at_some : {X : Type 0} (o : Option X) (x : X) (P : X → Type 0) → o ≡ Some x → IfSome o P → P x
at_some o x P e some = subst (λ o. IfSome o P) e some

pub none_from : {X : Type 0} (o : Option X) → is_some o ≡ false → o ≡ None
none_from None e = refl
none_from (Some x) e = absurd (true≢false e)

pub same_key_laws : IsEquivalence same_key
same_key_laws = and_equiv (on_equiv (λ (p : ℕ × ℕ). p.0) nat_eq_equiv) (on_equiv (λ (p : ℕ × ℕ). p.1) nat_eq_equiv)

-- ---- lists from an index on

front : {X : Type 0} (xs : List X) (left : ℕ) (d : X) → 1 ≤ left → left ≤ length xs → drop (left - 1) xs ≡ get_or xs (left - 1) d ∷ drop left xs
front xs left d some within =
    let next : suc (left - 1) ≡ left = omega arith in
    drop-cons xs (left - 1) d (omega arith) ∙ ap (λ n. get_or xs (left - 1) d ∷ drop n xs) next

-- a notice more, before the others
pub notice_front : (ns : List StoredNotice) (left : ℕ) (d : StoredNotice) (es fs : List ((ℕ × ℕ) × StoredNotice)) → 1 ≤ left → left ≤ length ns
    → ((q : ℕ × ℕ) → lookup (same_key q) fs ≡ cond (same_key ((get_or ns (left - 1) d).r, (get_or ns (left - 1) d).site) q) (Some (get_or ns (left - 1) d)) (lookup (same_key q) es))
    → ((r j : ℕ) → lookup (same_key (r, j)) es ≡ notice_in (drop left ns) r j) → (r j : ℕ) → lookup (same_key (r, j)) fs ≡ notice_in (drop (left - 1) ns) r j
notice_front ns left d es fs some within updates known r j =
    let n : StoredNotice = get_or ns (left - 1) d in
    updates (r, j) ∙ ap (λ b. cond b (Some n) (lookup (same_key (r, j)) es)) (same_key_laws.symm (n.r, n.site) (r, j))
    ∙ ap (cond (same_key (r, j) (n.r, n.site)) (Some n)) (known r j) ∙ sym (ap (λ l. notice_in l r j) (front ns left d some within))

-- a place more, before the others
pub place_front : (ss : List StoredSession) (left : ℕ) (d : StoredSession) (es fs : List ((ℕ × ℕ) × ℕ)) → 1 ≤ left → left ≤ length ss
    → ((q : ℕ × ℕ) → lookup (same_key q) fs ≡ cond (same_key ((get_or ss (left - 1) d).r, (get_or ss (left - 1) d).h) q) (Some (get_or ss (left - 1) d).place) (lookup (same_key q) es))
    → ((r h : ℕ) → lookup (same_key (r, h)) es ≡ place_in (drop left ss) r h) → (r h : ℕ) → lookup (same_key (r, h)) fs ≡ place_in (drop (left - 1) ss) r h
place_front ss left d es fs some within updates known r h =
    let s : StoredSession = get_or ss (left - 1) d in
    updates (r, h) ∙ ap (λ b. cond b (Some s.place) (lookup (same_key (r, h)) es)) (same_key_laws.symm (s.r, s.h) (r, h))
    ∙ ap (cond (same_key (r, h) (s.r, s.h)) (Some s.place)) (known r h) ∙ sym (ap (λ l. place_in l r h) (front ss left d some within))

pub once_front : (ss : List StoredSession) (left : ℕ) (d : StoredSession) → 1 ≤ left → left ≤ length ss
    → place_in (drop left ss) (get_or ss (left - 1) d).r (get_or ss (left - 1) d).h ≡ None → IsOnce (drop left ss) → IsOnce (drop (left - 1) ss)
once_front ss left d some within none once = subst IsOnce (sym (front ss left d some within)) (none, once)

once_drop : (i : ℕ) (ss : List StoredSession) → IsOnce ss → IsOnce (drop i ss)
once_drop zero ss once = once
once_drop (suc i) [] once = tt
once_drop (suc i) (s ∷ ss) once = once_drop i ss once.1

-- where each stands once, the first from an index on does not stand behind it
pub once_none : (ss : List StoredSession) (left : ℕ) (d : StoredSession) → 1 ≤ left → left ≤ length ss → IsOnce ss
    → place_in (drop left ss) (get_or ss (left - 1) d).r (get_or ss (left - 1) d).h ≡ None
once_none ss left d some within once = (subst IsOnce (front ss left d some within) (once_drop (left - 1) ss once)).0

-- ---- notices that are put

pub notice_put : (n : StoredNotice) (ns : List StoredNotice) (r j : ℕ) → notice_in (put notice_before n ns) r j ≡ cond (same_key (r, j) (n.r, n.site)) (Some n) (notice_in ns r j)
notice_put n [] r j = refl
notice_put n (m ∷ ms) r j = let later = notice_put n ms r j in grind (arith, nat_tests)

put_all_push : {X : Type 0} (before : X → X → Bool) (xs : List X) (x : X) (ys : List X) → put_all before (xs ++ x ∷ []) ys ≡ put before x (put_all before xs ys)
put_all_push before [] x ys = refl
put_all_push before (z ∷ zs) x ys = put_all_push before zs x (put before z ys)

-- a notice more, after the others
pub notice_more : (rows ns : List StoredNotice) (i : ℕ) (d : StoredNotice) (es fs : List ((ℕ × ℕ) × StoredNotice)) → i < length rows
    → ((q : ℕ × ℕ) → lookup (same_key q) fs ≡ cond (same_key ((get_or rows i d).r, (get_or rows i d).site) q) (Some (get_or rows i d)) (lookup (same_key q) es))
    → ((r j : ℕ) → lookup (same_key (r, j)) es ≡ notice_in (put_all notice_before (take i rows) ns) r j) → (r j : ℕ) → lookup (same_key (r, j)) fs ≡ notice_in (put_all notice_before (take (i + 1) rows) ns) r j
notice_more rows ns i d es fs within updates known r j =
    let n : StoredNotice = get_or rows i d in
    let before : List StoredNotice = put_all notice_before (take i rows) ns in
    let all : put_all notice_before (take (i + 1) rows) ns ≡ put notice_before n before =
    ap (λ l. put_all notice_before l ns) (take_more rows i d within) ∙ put_all_push notice_before (take i rows) n ns in
    updates (r, j) ∙ ap (λ b. cond b (Some n) (lookup (same_key (r, j)) es)) (same_key_laws.symm (n.r, n.site) (r, j))
    ∙ ap (cond (same_key (r, j) (n.r, n.site)) (Some n)) (known r j)
    ∙ sym (notice_put n before r j) ∙ sym (ap (λ l. notice_in l r j) all)

-- ---- the greatest place

fold_least : (n m : ℕ) (xs : List ℕ) → m ≤ n → AllByRecursion (λ x. x ≤ n) xs → fold (λ a b. max a b) m xs ≤ n
fold_least n m [] low all = low
fold_least n m (x ∷ xs) low all = let first : x ≤ n = all.0 in fold_least n (max m x) xs (omega arith) all.1

fold_from : (m : ℕ) (xs : List ℕ) → m ≤ fold (λ a b. max a b) m xs
fold_from m [] = omega arith
fold_from m (x ∷ xs) = let rest = fold_from (max m x) xs in omega arith

fold_above : (m : ℕ) (xs : List ℕ) → AllByRecursion (λ x. x ≤ fold (λ a b. max a b) m xs) xs
fold_above m [] = tt
fold_above m (x ∷ xs) = let rest = fold_from (max m x) xs in (omega arith, fold_above (max m x) xs)

each : (P : ℕ → Type 0) (xs : List ℕ) → All P xs → AllByRecursion P xs
each P [] all = tt
each P (x ∷ xs) all = (all 0 x (omega arith), each P xs (λ i d below. all (suc i) d (omega arith)))

lookup_le : (test : ℕ × ℕ → Bool) (n v : ℕ) (es : List ((ℕ × ℕ) × ℕ)) → AllByRecursion (λ x. x ≤ n) (values_of es) → lookup test es ≡ Some v → v ≤ n
lookup_le test n v [] all found = cc
lookup_le test n v (e ∷ es) all found = elim (cases_Bool (test e.0)) [
  | inl here ↦ let is : Some e.1 ≡ Some v = rw here at found in let same : e.1 ≡ v = cc in let first : e.1 ≤ n = all.0 in omega arith
  | inr apart ↦ lookup_le test n v es all.1 (rw apart at found)
]

pub place_le : (ss : List StoredSession) (r h p : ℕ) → place_in ss r h ≡ Some p → p ≤ greatest_place ss
place_le [] r h p found = cc
place_le (s ∷ ss) r h p found = elim (cases_Bool (same_key (r, h) (s.r, s.h))) [
  | inl here ↦ let is : Some s.place ≡ Some p = rw here at found in let same : s.place ≡ p = cc in omega arith
  | inr apart ↦ let rest = place_le ss r h p (rw apart at found) in omega arith
]

-- the greatest place is the least that no place exceeds
greatest_least : (ss : List StoredSession) (n : ℕ) → IsOnce ss → ((r h p : ℕ) → place_in ss r h ≡ Some p → p ≤ n) → greatest_place ss ≤ n
greatest_least [] n once low = omega arith
greatest_least (s ∷ ss) n once low =
    let here : same_key (s.r, s.h) (s.r, s.h) ≡ true = same_key_laws.refl (s.r, s.h) in
    let first : s.place ≤ n = low s.r s.h s.place (rw here refl) in
    let rest : greatest_place ss ≤ n = greatest_least ss n once.1 (λ r h p found. elim (cases_Bool (same_key (r, h) (s.r, s.h))) [
      | inl same ↦
          let e : r ≡ s.r = grind (arith, nat_tests) in
          let f : h ≡ s.h = grind (arith, nat_tests) in
          let none : place_in ss r h ≡ None = rw (e, f) once.0 in
          absurd (let clash : Some p ≡ None = sym found ∙ none in cc)
      | inr apart ↦ low r h p (rw apart found)
    ]) in
    omega arith

if_some : (o : Option ℕ) (n : ℕ) → ((v : ℕ) → o ≡ Some v → v ≤ n) → IfSome o (λ v. v ≤ n)
if_some None n low = tt
if_some (Some v) n low = low v refl

-- a map that has the places of sessions has their greatest
pub greatest_known : (es : List ((ℕ × ℕ) × ℕ)) (ss : List StoredSession) → IsDistinct same_key (keys_of es) → IsOnce ss
    → ((r h : ℕ) → lookup (same_key (r, h)) es ≡ place_in ss r h) → greatest_value es ≡ greatest_place ss
greatest_known es ss unique once known =
    let above : AllByRecursion (λ x. x ≤ greatest_value es) (values_of es) = fold_above 0 (values_of es) in
    let low : greatest_place ss ≤ greatest_value es = greatest_least ss (greatest_value es) once (λ r h p found. lookup_le (same_key (r, h)) (greatest_value es) p es above (known r h ∙ found)) in
    let values : All (λ x. x ≤ greatest_place ss) (values_of es) =
    All-values_from_lookup same_key_laws (λ x. x ≤ greatest_place ss) es unique (λ q. if_some (lookup (same_key q) es) (greatest_place ss) (λ v found. place_le ss q.0 q.1 v (sym (known q.0 q.1) ∙ found))) in
    let high : greatest_value es ≤ greatest_place ss = fold_least (greatest_place ss) 0 (values_of es) (omega arith) (each (λ x. x ≤ greatest_place ss) (values_of es) values) in
    omega arith
