-- The rows that a query shows in an order rise as the items of its table do.
use Rattle.std.proofs.Common.{◌≡◌, inl, inr, ℕ, pos, Bool, true, false, not, ◌&&◌, ◌||◌, ◌==◌, nat_lt, cond, List, [], ◌∷◌, map, drop, suc, add-one, IsTrue, refl, sym, ap, ap₂, subst, ◌∙◌, arith, Ordering, Less, is_lt}
use Rattle.std.specs.List.{AllByRecursion, IsDistinct, list_any}
use Rattle.std.specs.List.Sorted.{IsSortedBy}
use Rattle.std.specs.Ordering.{ordering_then}
use Rattle.std.proofs.lemmas.Bool.{cases_Bool, both_ways}
use Rattle.std.proofs.lemmas.Bool.Decides.{nat_tests}
use Rattle.std.proofs.lemmas.Map.Keys.{IsDistinct-IsPermutation}
use Rattle.std.proofs.lemmas.List.Sorted.{IsPermutation-map}
use Rattle.sqlite_value.specs.declared.value.Value.{Value}
use Rattle.sqlite_value.specs.declared.value.Value.TheVariants.{Null, Int, Real, Text, Blob}
use Rattle.sqlite_value.specs.Order.{Row, value_cmp}
use Rattle.sqlite_value.specs.Keys.{plain}
use Rattle.sqlite_value.proofs.OrderLemmas.{value_cmp-Int}
use Rattle.sqlite_trees.specs.Tree.{IsTable, rowid}
use Rattle.sqlite_trees.specs.View.{is_int}
use Rattle.sqlite_value.specs.declared.keys.Key.{Key}
use Rattle.sqlite_trees.specs.Tree.{Trees}
use Rattle.sqlite_sql.specs.Ops.{binary}
use Rattle.sqlite_sql.specs.Term.{Term, eval_all}
use Rattle.sqlite_sql.specs.Query.{IsAnswerAs, Output, output, output_cmp, key_cmp}
use Rattle.sqlite_schema.specs.Rules.{agree, clashes, differ}
use Rattle.sqlite_rules.specs.Lists.{Has}
use Rattle.sqlite_rules.proofs.ListLemmas.{all_has}
use Rattle.store_rows.specs.Holding.{HoldsRows}
use Rattle.store_rows.proofs.SortedLemmas.{IsOrder, ties}
use Rattle.store_rows.proofs.ReadLemmas.{query_on, found, found_has, outputs, shown, permuted_has, mapped_has}
use Rattle.store_tables.specs.Reads.{is_chain}

-- ---- a list in order

untied : (a b : Bool) → cond a false (not b) ≡ false → b ≡ false → a ≡ true
untied true b tie back = refl
untied false b tie back = absurd (both_ways (not b) tie (ap not back))

module _ {O X : Type 0} (before : X → X → Bool) (lt : O → O → Bool) (item : O → X) where
  -- of which no two items tie
  pub chain_of : (os : List O) → ((o p : O) → Has os o → Has os p → lt o p ≡ before (item o) (item p)) → IsSortedBy lt os → IsDistinct (ties before) (map item os) → is_chain before (map item os) ≡ true
  unfolding IsDistinct
  chain_of [] means sorted apart = refl
  chain_of (o ∷ []) means sorted apart = refl
  chain_of (o ∷ (p ∷ os)) means sorted apart =
      let tail : IsSortedBy lt (p ∷ os) = λ k d low within. rw add-one (rw add-one at (sorted (suc k) d (omega arith) (omega arith))) in
      let later : is_chain before (map item (p ∷ os)) ≡ true = chain_of (p ∷ os) (λ x y h k. means x y (inr h) (inr k)) tail apart.1 in
      let back : before (item p) (item o) ≡ false = sym (means p o (inr (inl refl)) (inl refl)) ∙ sorted 0 o (omega arith) (omega arith) in
      let first : before (item o) (item p) ≡ true = untied _ _ apart.0.0 back in
      rw first later

pub ties_flip : {X : Type 0} (before : X → X → Bool) → IsOrder before → (x y : X) → ties before x y ≡ ties before y x
ties_flip before order x y = elim (cases_Bool (before x y)) [
  | inl e ↦ elim (cases_Bool (before y x)) [
    | inl f ↦ absurd (both_ways _ (order.strict x) (order.through x y x e f))
    | inr f ↦ rw (e, f) refl
  ]
  | inr e ↦ elim (cases_Bool (before y x)) [ inl f ↦ rw (e, f) refl | inr f ↦ rw (e, f) refl ]
]

-- ---- rows of which no two have one key

none_has : {X : Type 0} (p : X → Bool) (xs : List X) (x : X) → list_any p xs ≡ false → Has xs x → p x ≡ false
none_has p [] x none h = absurd h
none_has p (y ∷ ys) x none (inl e) = rw e (elim (cases_Bool (p y)) [ inl is ↦ absurd (both_ways _ none (rw is refl)) | inr low ↦ low ])
none_has p (y ∷ ys) x none (inr h) = elim (cases_Bool (p y)) [ inl is ↦ absurd (both_ways _ none (rw is refl)) | inr low ↦ none_has p ys x (rw low at none) h ]

rowids_differ : (a b : Value) → IsTrue (is_int a) → IsTrue (is_int b) → value_cmp a b ≡ Less → differ a b ≡ true
unfolding binary
rowids_differ (Int m) (Int n) p q h = rw h refl
rowids_differ Null b p q h = absurd (both_ways _ refl p)
rowids_differ (Real x) b p q h = absurd (both_ways _ refl p)
rowids_differ (Text t) b p q h = absurd (both_ways _ refl p)
rowids_differ (Blob t) b p q h = absurd (both_ways _ refl p)
rowids_differ (Int m) Null p q h = absurd (both_ways _ refl q)
rowids_differ (Int m) (Real x) p q h = absurd (both_ways _ refl q)
rowids_differ (Int m) (Text t) p q h = absurd (both_ways _ refl q)
rowids_differ (Int m) (Blob t) p q h = absurd (both_ways _ refl q)

first_false : (a b : Bool) → (a && b) ≡ false → b ≡ true → a ≡ false
first_false true b h e = absurd (both_ways b h e)
first_false false b h e = refl

module _ {X : Type 0} (row : X → Row) (before : X → X → Bool) (item : Row → X) (back : (x : X) → item (row x) ≡ x) (places : List ℕ) (whole : List Row)
    (agrees : (r s : Row) (x y : X) → drop 1 r ≡ row x → drop 1 s ≡ row y → agree plain places r places s ≡ ties before x y)
    (clear : (r : Row) → Has whole r → clashes plain places whole r ≡ false) (each : (r : Row) → Has whole r → (x : X) × (drop 1 r ≡ row x)) where
  apart : (r s : Row) → Has whole r → Has whole s → IsTrue (is_int (rowid r)) → IsTrue (is_int (rowid s)) → value_cmp (rowid r) (rowid s) ≡ Less → ties before (item (drop 1 r)) (item (drop 1 s)) ≡ false
  apart r s h k p q less =
      let x = each r h in
      let y = each s k in
      let loose : agree plain places r places s ≡ false = first_false _ _ (none_has (λ other. agree plain places other places s && differ (rowid other) (rowid s)) whole r (clear s k) h) (rowids_differ (rowid r) (rowid s) p q less) in
      let one : item (drop 1 r) ≡ x.0 = ap item x.1 ∙ back x.0 in
      let two : item (drop 1 s) ≡ y.0 = ap item y.1 ∙ back y.0 in
      rw (one, two) (sym (agrees r s x.0 y.0 x.1 y.1) ∙ loose)

  pub rows_distinct : (rows : List Row) → ((r : Row) → Has rows r → Has whole r) → IsTable rows → AllByRecursion (λ r. IsTrue (is_int (rowid r))) rows → IsDistinct (ties before) (map (λ (r : Row). item (drop 1 r)) rows)
  unfolding IsDistinct
  rows_distinct [] inside keyed numbered = tt
  rows_distinct (r ∷ rows) inside keyed numbered = (
    all_mapped rows (λ s h. apart r s (inside r (inl refl)) (inside s (inr h)) numbered.0 (all_has _ rows s numbered.1 h) (all_has _ rows s keyed.0 h)),
    rows_distinct rows (λ s h. inside s (inr h)) keyed.1 numbered.1,
  )
    where
      all_mapped : (ss : List Row) → ((s : Row) → Has ss s → ties before (item (drop 1 r)) (item (drop 1 s)) ≡ false) → AllByRecursion (λ y. ties before (item (drop 1 r)) y ≡ false) (map (λ (s : Row). item (drop 1 s)) ss)
      all_mapped [] f = tt
      all_mapped (s ∷ ss) f = (f s (inl refl), all_mapped ss (λ t h. f t (inr h)))

-- ---- what an order of whole numbers comes to

pub less_then : (m n : ℕ) (o : Ordering) → is_lt (ordering_then (value_cmp (Int (pos m)) (Int (pos n))) o) ≡ (nat_lt m n || ((m == n) && is_lt o))
less_then m n o = rw (value_cmp-Int (pos m) (pos n)) (elim (cases_Bool (nat_lt m n)) [
  | inl e ↦ rw e refl
  | inr e ↦ elim (cases_Bool (nat_lt n m)) [
    | inl f ↦ let g : (m == n) ≡ false = grind (arith, nat_tests) in rw (e, f, g) refl
    | inr f ↦ let g : (m == n) ≡ true = grind (arith, nat_tests) in rw (e, f, g) refl
  ]
])

-- ---- the answer of a query on one table

module _ {X : Type 0} (row : X → Row) (before : X → X → Bool) (order : IsOrder before) (item : Row → X) (back : (x : X) → item (row x) ≡ x) (places : List ℕ) (project : List Term) (keys : List (Term × Key))
    (shows : (r : Row) (x : X) → drop 1 r ≡ row x → eval_all project ([] ∷ r ∷ []) ≡ row x) (agrees : (r s : Row) (x y : X) → drop 1 r ≡ row x → drop 1 s ≡ row y → agree plain places r places s ≡ ties before x y)
    (sorts : (r s : Row) (x y : X) → drop 1 r ≡ row x → drop 1 s ≡ row y → is_lt (key_cmp 0 (map (λ k. k.1) keys) (eval_all (map (λ k. k.0) keys) ([] ∷ r ∷ [])) (eval_all (map (λ k. k.0) keys) ([] ∷ s ∷ []))) ≡ before x y)
    (tree : ℕ) (db : Trees) (rows : List Row) (a : IsAnswerAs Null (query_on tree [] project keys) db [] rows) (items : List X) (holds : HoldsRows row items (db tree))
    (clear : (r : Row) → Has (db tree) r → clashes plain places (db tree) r ≡ false) where
  abbrev each : (r : Row) → Has (db tree) r → (x : X) × (drop 1 r ≡ row x)
  each r h = let x = holds.sound r h in (x.0, x.2)

  abbrev of : Output → X
  of o = item o.1

  -- each output is that of a row
  from : (o : Output) → Has a.ordered o → (r : Row) × Has (db tree) r × (o ≡ output (query_on tree [] project keys) ([] ∷ r ∷ []))
  from o h =
      let k = permuted_has a.kept a.ordered o a.same h in
      let e = mapped_has (output (query_on tree [] project keys)) (found [] [] (db tree)) o (subst (λ (all : List Output). Has all o) (outputs tree [] project keys db [] rows a) k) in
      let r = found_has [] [] (db tree) e.0 e.1 in
      (r.0, r.1, e.2 ∙ ap (output (query_on tree [] project keys)) r.3)

  item_of : (o : Output) (h : Has a.ordered o) → (x : X) × Has items x × (of o ≡ x) × (o.1 ≡ row x)
  item_of o h =
      let r = from o h in
      let x = holds.sound r.0 r.1 in
      let shown_as : o.1 ≡ row x.0 = ap (λ (p : Output). p.1) r.2 ∙ shows r.0 x.0 x.2 in
      (x.0, x.1, ap item shown_as ∙ back x.0, shown_as)

  means : (o p : Output) → Has a.ordered o → Has a.ordered p → is_lt (output_cmp (query_on tree [] project keys) o p) ≡ before (of o) (of p)
  means o p h k =
      let r = from o h in
      let s = from p k in
      let x = each r.0 r.1 in
      let y = each s.0 s.1 in
      let one : of o ≡ x.0 = ap of r.2 ∙ ap item (shows r.0 x.0 x.1) ∙ back x.0 in
      let two : of p ≡ y.0 = ap of s.2 ∙ ap item (shows s.0 y.0 y.1) ∙ back y.0 in
      ap₂ (λ (b c : Output). is_lt (output_cmp (query_on tree [] project keys) b c)) r.2 s.2 ∙ sorts r.0 s.0 x.0 y.0 x.1 y.1 ∙ sym (ap₂ before one two)

  base_of : (ts : List Row) → ((r : Row) → Has ts r → (x : X) × (drop 1 r ≡ row x)) → map of (map (output (query_on tree [] project keys)) (found [] [] ts)) ≡ map (λ (r : Row). item (drop 1 r)) ts
  base_of [] f = refl
  base_of (r ∷ ts) f = let x = f r (inl refl) in ap₂ ◌∷◌ (ap item (shows r x.0 x.1 ∙ sym x.1)) (base_of ts (λ s h. f s (inr h)))

  base : map of a.kept ≡ map (λ (r : Row). item (drop 1 r)) (db tree)
  base = ap (map of) (outputs tree [] project keys db [] rows a) ∙ base_of (db tree) each

  same_rows : (os : List Output) → ((o : Output) → Has os o → row (of o) ≡ o.1) → map row (map of os) ≡ map (λ (o : Output). o.1) os
  same_rows [] f = refl
  same_rows (o ∷ os) f = ap₂ ◌∷◌ (f o (inl refl)) (same_rows os (λ p h. f p (inr h)))

  -- the items of the rows that are shown
  pub items_shown : (all : List X) × (map row all ≡ rows) × (is_chain before all ≡ true) × ((x : X) → Has all x → Has items x)
  items_shown = (
    map of a.ordered,
    same_rows a.ordered (λ o h. let x = item_of o h in ap row x.2 ∙ sym x.3) ∙ sym (shown tree [] project keys db [] rows a),
    chain_of before (λ o p. is_lt (output_cmp (query_on tree [] project keys) o p)) of a.ordered means a.sorted
        (IsDistinct-IsPermutation (ties before) (ties_flip before order) (map of a.kept) (map of a.ordered) (IsPermutation-map of a.kept a.ordered a.same)
        (subst (IsDistinct (ties before)) (sym base) (rows_distinct row before item back places (db tree) agrees clear each (db tree) (λ r h. h) holds.keyed holds.numbered))),
    λ x h. let o = mapped_has of a.ordered x h in let y = item_of o.0 o.1 in subst (Has items) (sym (o.2 ∙ y.2)) y.1,
  )
