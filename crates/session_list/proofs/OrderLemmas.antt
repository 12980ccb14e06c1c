-- What `in_order` gives of a changed list, that it only moves the items, and that it is what a sort gives.
use Rattle.std.proofs.Common.{◌≡◌, ℕ, zero, suc, ◌<◌, ◌≤◌, Bool, true, false, cond, ◌==◌, nat_lt, nat_eq, List, [], ◌∷◌, ◌++◌, map, filter, Option, IsPermutation, refl, sym, ap, ◌∙◌, subst, arith}
use Rattle.std.specs.Cmp.{nat_eq_equiv}
use Rattle.std.specs.List.{IsDistinct, AllByRecursion}
use Rattle.std.specs.List.Sorted.{IsNonDecreasingBy}
use Rattle.std.specs.Map.{keys_of, lookup}
use Rattle.std.specs.Option.{option_to_list}
use Rattle.std.proofs.lemmas.Bool.Decides.{nat_tests}
use Rattle.std.proofs.lemmas.List.{append-nil, map-append}
use Rattle.std.proofs.lemmas.List.Elements.{All-from_get_or, recursion_from_All, filter-append}
use Rattle.std.proofs.lemmas.List.Sorted.{IsPermutation-refl, IsPermutation-sym, IsPermutation-cons, IsPermutation-trans, IsPermutation-map, IsPermutation-middle, IsPermutation-append_left}
use Rattle.std.proofs.lemmas.Map.Keys.{IsDistinct-IsPermutation}
use Rattle.indexmap.proofs.MapLemmas.{lookup_permutation}
use Rattle.session_list.specs.Order.{in_order}

-- how a filter goes on at an item
filter_at : {X : Type 0} (p : X → Bool) (x : X) (xs : List X) (b : Bool) → p x ≡ b → filter p (x ∷ xs) ≡ cond b (x ∷ filter p xs) (filter p xs)
filter_at p x xs b e = ap (λ c. cond c (x ∷ filter p xs) (filter p xs)) e

-- two filters may change places
filter-filter : {X : Type 0} (p q : X → Bool) (xs : List X) → filter q (filter p xs) ≡ filter p (filter q xs)
filter-filter p q [] = refl
filter-filter p q (x ∷ xs) = by (filter-filter p q xs) (p x) (q x) refl refl
  where
    by : filter q (filter p xs) ≡ filter p (filter q xs) → (b c : Bool) → p x ≡ b → q x ≡ c → filter q (filter p (x ∷ xs)) ≡ filter p (filter q (x ∷ xs))
    by rest true true f g = ap (filter q) (filter_at p x xs true f) ∙ filter_at q x (filter p xs) true g ∙ ap (λ l. x ∷ l) rest ∙ sym (filter_at p x (filter q xs) true f) ∙ sym (ap (filter p) (filter_at q x xs true g))
    by rest true false f g = ap (filter q) (filter_at p x xs true f) ∙ filter_at q x (filter p xs) false g ∙ rest ∙ sym (ap (filter p) (filter_at q x xs false g))
    by rest false true f g = ap (filter q) (filter_at p x xs false f) ∙ rest ∙ sym (filter_at p x (filter q xs) false f) ∙ sym (ap (filter p) (filter_at q x xs true g))
    by rest false false f g = ap (filter q) (filter_at p x xs false f) ∙ rest ∙ sym (ap (filter p) (filter_at q x xs false g))

-- a filter by a test that a change of the items keeps
filter-map : {X : Type 0} (p : X → Bool) (f : X → X) → ((x : X) → p (f x) ≡ p x) → (xs : List X) → filter p (map f xs) ≡ map f (filter p xs)
filter-map p f keeps [] = refl
filter-map p f keeps (x ∷ xs) = by (filter-map p f keeps xs) (p x) refl
  where
    by : filter p (map f xs) ≡ map f (filter p xs) → (b : Bool) → p x ≡ b → filter p (map f (x ∷ xs)) ≡ map f (filter p (x ∷ xs))
    by rest true e = filter_at p (f x) (map f xs) true (keeps x ∙ e) ∙ ap (λ l. f x ∷ l) rest ∙ sym (ap (map f) (filter_at p x xs true e))
    by rest false e = filter_at p (f x) (map f xs) false (keeps x ∙ e) ∙ rest ∙ sym (ap (map f) (filter_at p x xs false e))

-- a filter that lets none pass, and one that lets all pass
pub filter_none : {X : Type 0} (p : X → Bool) (xs : List X) → AllByRecursion (λ x. p x ≡ false) xs → filter p xs ≡ []
filter_none p [] h = refl
filter_none p (x ∷ xs) h = filter_at p x xs false h.0 ∙ filter_none p xs h.1

pub filter_each : {X : Type 0} (p : X → Bool) (xs : List X) → AllByRecursion (λ x. p x ≡ true) xs → filter p xs ≡ xs
filter_each p [] h = refl
filter_each p (x ∷ xs) h = filter_at p x xs true h.0 ∙ ap (λ l. x ∷ l) (filter_each p xs h.1)

module _ {X : Type 0} (number : X → ℕ) where
  -- each number is below n, item by item
  abbrev pub IsBelow : ℕ → List X → Type 0
  IsBelow n xs = AllByRecursion (λ x. number x < n) xs

  none_at : (n : ℕ) (xs : List X) → IsBelow n xs → filter (λ x. n == number x) xs ≡ []
  none_at n [] h = refl
  none_at n (x ∷ xs) h =
      let below : number x < n = h.0 in
      let differ : (n == number x) ≡ false = grind (arith, nat_tests) in
      filter_at (λ y. n == number y) x xs false differ ∙ none_at n xs h.1

  -- an item with a number from n on is not among those below n
  in_order-skip : (n : ℕ) (xs : List X) (y : X) → n ≤ number y → in_order number n (xs ++ y ∷ []) ≡ in_order number n xs
  unfolding in_order
  in_order-skip zero xs y h = refl
  in_order-skip (suc n) xs y h =
      let differ : (n == number y) ≡ false = grind (arith, nat_tests) in
      let here : filter (λ x. n == number x) (xs ++ y ∷ []) ≡ filter (λ x. n == number x) xs =
      filter-append (λ x. n == number x) xs (y ∷ []) ∙ ap (λ l. filter (λ x. n == number x) xs ++ l) (filter_at (λ x. n == number x) y [] false differ) ∙ append-nil (filter (λ x. n == number x) xs) in
      ap (λ l. l ++ filter (λ x. n == number x) (xs ++ y ∷ [])) (in_order-skip n xs y (omega arith)) ∙ ap (λ l. in_order number n xs ++ l) here

  -- an item with the next number goes last
  pub in_order-push : (n : ℕ) (xs : List X) (y : X) → IsBelow n xs → number y ≡ n → in_order number (suc n) (xs ++ y ∷ []) ≡ in_order number n xs ++ y ∷ []
  unfolding in_order
  in_order-push n xs y below is =
      let same : (n == number y) ≡ true = grind (arith, nat_tests) in
      let here : filter (λ x. n == number x) (xs ++ y ∷ []) ≡ y ∷ [] =
      filter-append (λ x. n == number x) xs (y ∷ []) ∙ ap (λ l. l ++ filter (λ x. n == number x) (y ∷ [])) (none_at n xs below) ∙ filter_at (λ x. n == number x) y [] true same in
      ap (λ l. l ++ filter (λ x. n == number x) (xs ++ y ∷ [])) (in_order-skip n xs y (omega arith)) ∙ ap (λ l. in_order number n xs ++ l) here

  -- a change that keeps the numbers keeps the order
  pub in_order-map : (f : X → X) → ((x : X) → number (f x) ≡ number x) → (n : ℕ) (xs : List X) → in_order number n (map f xs) ≡ map f (in_order number n xs)
  unfolding in_order
  in_order-map f keeps zero xs = refl
  in_order-map f keeps (suc n) xs =
      (λ j. in_order-map f keeps n xs j ++ filter-map (λ x. n == number x) f (λ x. ap (λ m. n == m) (keeps x)) xs j)
      ∙ sym (map-append f (in_order number n xs) (filter (λ x. n == number x) xs))

  -- the order of the items that pass a test
  pub in_order-filter : (p : X → Bool) (n : ℕ) (xs : List X) → in_order number n (filter p xs) ≡ filter p (in_order number n xs)
  unfolding in_order
  in_order-filter p zero xs = refl
  in_order-filter p (suc n) xs =
      (λ j. in_order-filter p n xs j ++ filter-filter p (λ x. n == number x) xs j)
      ∙ sym (filter-append p (in_order number n xs) (filter (λ x. n == number x) xs))

  -- the items by their numbers
  numbered : List X → List (ℕ × X)
  numbered xs = map (λ x. (number x, x)) xs

  keys_of-numbered : (xs : List X) → keys_of (numbered xs) ≡ map number xs
  unfolding numbered
  keys_of-numbered [] = refl
  keys_of-numbered (x ∷ xs) = ap (λ l. number x ∷ l) (keys_of-numbered xs)

  -- where a number is not among those of the items, none has it
  none_apart : (n : ℕ) (xs : List X) → AllByRecursion (λ m. nat_eq n m ≡ false) (map number xs) → filter (λ x. n == number x) xs ≡ []
  none_apart n [] h = refl
  none_apart n (x ∷ xs) h = filter_at (λ y. n == number y) x xs false h.0 ∙ none_apart n xs h.1

  -- where the numbers are distinct, one item at most has a number
  one_at : (n : ℕ) (xs : List X) → IsDistinct nat_eq (map number xs) → filter (λ x. n == number x) xs ≡ option_to_list (lookup (nat_eq n) (numbered xs))
  unfolding IsDistinct numbered
  one_at n [] d = refl
  one_at n (x ∷ xs) d = by (one_at n xs d.1) (n == number x) refl
    where
      by : filter (λ y. n == number y) xs ≡ option_to_list (lookup (nat_eq n) (numbered xs)) → (b : Bool) → (n == number x) ≡ b → filter (λ y. n == number y) (x ∷ xs) ≡ option_to_list (lookup (nat_eq n) (numbered (x ∷ xs)))
      by later true e =
          let is : n ≡ number x = grind (arith, nat_tests) in
          let rest = none_apart n xs (subst (λ m. AllByRecursion (λ k. nat_eq m k ≡ false) (map number xs)) (sym is) d.0) in
          filter_at (λ y. n == number y) x xs true e ∙ ap (λ l. x ∷ l) rest ∙ sym (ap (λ c. option_to_list (cond c (Option.Some x) (lookup (nat_eq n) (numbered xs)))) e)
      by later false e = filter_at (λ y. n == number y) x xs false e ∙ later ∙ sym (ap (λ c. option_to_list (cond c (Option.Some x) (lookup (nat_eq n) (numbered xs)))) e)

  same_at : (n : ℕ) (xs ys : List X) → IsPermutation xs ys → IsDistinct nat_eq (map number xs) → filter (λ x. n == number x) ys ≡ filter (λ x. n == number x) xs
  unfolding numbered
  same_at n xs ys moves d =
      let e = IsDistinct-IsPermutation nat_eq nat_eq_equiv.symm (map number xs) (map number ys) (IsPermutation-map number xs ys moves) d in
      one_at n ys e
      ∙ ap option_to_list (lookup_permutation nat_eq_equiv (numbered xs) (numbered ys) (IsPermutation-map (λ x. (number x, x)) xs ys moves) (subst (IsDistinct nat_eq) (sym (keys_of-numbered ys)) e) (nat_eq n) (nat_eq_equiv.congr n))
      ∙ sym (one_at n xs d)

  -- where the numbers are distinct, the order is of the items alone, and not of how a list has them
  pub in_order-IsPermutation : (n : ℕ) (xs ys : List X) → IsPermutation xs ys → IsDistinct nat_eq (map number xs) → in_order number n ys ≡ in_order number n xs
  unfolding in_order
  in_order-IsPermutation zero xs ys moves d = refl
  in_order-IsPermutation (suc n) xs ys moves d = λ j. in_order-IsPermutation n xs ys moves d j ++ same_at n xs ys moves d j

-- a permutation between lists that equal two others
along : {X : Type 0} {xs ys us vs : List X} → us ≡ xs → vs ≡ ys → IsPermutation xs ys → IsPermutation us vs
along {X} {xs} {ys} {us} {vs} p q moves = subst (λ l. IsPermutation us l) (sym q) (subst (λ l. IsPermutation l ys) (sym p) moves)

module _ {X : Type 0} (number : X → ℕ) where
  below_or_at : (n : ℕ) (xs : List X) → IsPermutation (filter (λ x. nat_lt (number x) (suc n)) xs) (filter (λ x. nat_lt (number x) n) xs ++ filter (λ x. n == number x) xs)
  below_or_at n [] = IsPermutation-refl []
  below_or_at n (x ∷ xs) = by (below_or_at n xs) (nat_lt (number x) n) (n == number x) refl refl
    where
      more : X → Bool
      more y = nat_lt (number y) (suc n)

      less : X → Bool
      less y = nat_lt (number y) n

      here : X → Bool
      here y = n == number y

      by : IsPermutation (filter (λ y. nat_lt (number y) (suc n)) xs) (filter (λ y. nat_lt (number y) n) xs ++ filter (λ y. n == number y) xs) → (b c : Bool) → nat_lt (number x) n ≡ b → (n == number x) ≡ c → IsPermutation (filter (λ y. nat_lt (number y) (suc n)) (x ∷ xs)) (filter (λ y. nat_lt (number y) n) (x ∷ xs) ++ filter (λ y. n == number y) (x ∷ xs))
      by rest true true e f = absurd (grind (arith, nat_tests))
      by rest true false e f =
          let up : nat_lt (number x) (suc n) ≡ true = grind (arith, nat_tests) in
          along (filter_at more x xs true up) (λ j. filter_at less x xs true e j ++ filter_at here x xs false f j) (IsPermutation-cons x _ _ rest)
      by rest false true e f =
          let up : nat_lt (number x) (suc n) ≡ true = grind (arith, nat_tests) in
          along (filter_at more x xs true up) (λ j. filter_at less x xs false e j ++ filter_at here x xs true f j)
          (IsPermutation-trans _ _ _ (IsPermutation-cons x _ _ rest) (IsPermutation-sym _ _ (IsPermutation-middle (filter less xs) x (filter here xs))))
      by rest false false e f =
          let up : nat_lt (number x) (suc n) ≡ false = grind (arith, nat_tests) in
          along (filter_at more x xs false up) (λ j. filter_at less x xs false e j ++ filter_at here x xs false f j) rest

  none_below_zero : (xs : List X) → filter (λ x. nat_lt (number x) 0) xs ≡ []
  none_below_zero [] = refl
  none_below_zero (x ∷ xs) =
      let not_so : nat_lt (number x) 0 ≡ false = grind (arith, nat_tests) in
      filter_at (λ y. nat_lt (number y) 0) x xs false not_so ∙ none_below_zero xs

  moved_below : (n : ℕ) (xs : List X) → IsPermutation (filter (λ x. nat_lt (number x) n) xs) (in_order number n xs)
  unfolding in_order
  moved_below zero xs = along (none_below_zero xs) refl (IsPermutation-refl [])
  moved_below (suc n) xs = IsPermutation-trans _ _ _ (below_or_at n xs) (IsPermutation-append_left (filter (λ x. n == number x) xs) _ _ (moved_below n xs))

  all_below : (n : ℕ) (xs : List X) → IsBelow number n xs → filter (λ x. nat_lt (number x) n) xs ≡ xs
  all_below n [] h = refl
  all_below n (x ∷ xs) h =
      let below : number x < n = h.0 in
      let so : nat_lt (number x) n ≡ true = grind (arith, nat_tests) in
      filter_at (λ y. nat_lt (number y) n) x xs true so ∙ ap (λ l. x ∷ l) (all_below n xs h.1)

  -- where each number is below n, the order has all the items
  pub in_order-permutes : (n : ℕ) (xs : List X) → IsBelow number n xs → IsPermutation xs (in_order number n xs)
  in_order-permutes n xs below = subst (λ l. IsPermutation l (in_order number n xs)) (all_below n xs below) (moved_below n xs)

  -- no number is below an earlier one
  abbrev IsRising : List X → Type 0
  IsRising [] = Unit {0}
  IsRising (x ∷ xs) = AllByRecursion (λ y. number x ≤ number y) xs × IsRising xs

  rising : (xs : List X) → IsNonDecreasingBy number xs → IsRising xs
  rising [] up = tt
  rising (x ∷ xs) up = (
    recursion_from_All (λ y. number x ≤ number y) xs (All-from_get_or (λ y. number x ≤ number y) xs x (λ i h. up 0 (suc i) x (omega arith) (omega arith))),
    rising xs (λ i j d h l. up (suc i) (suc j) d (omega arith) (omega arith)),
  )

  none_less : (n : ℕ) (xs : List X) → AllByRecursion (λ y. n ≤ number y) xs → filter (λ y. nat_lt (number y) n) xs ≡ []
  none_less n [] h = refl
  none_less n (x ∷ xs) h =
      let above : n ≤ number x = h.0 in
      let not_so : nat_lt (number x) n ≡ false = grind (arith, nat_tests) in
      filter_at (λ y. nat_lt (number y) n) x xs false not_so ∙ none_less n xs h.1

  -- in a rising list those at n stand after those below n
  below_then_at : (n : ℕ) (xs : List X) → IsRising xs → filter (λ x. nat_lt (number x) (suc n)) xs ≡ filter (λ x. nat_lt (number x) n) xs ++ filter (λ x. n == number x) xs
  below_then_at n [] up = refl
  below_then_at n (x ∷ xs) up = by (below_then_at n xs up.1) (nat_lt (number x) n) (n == number x) refl refl
    where
      more : X → Bool
      more y = nat_lt (number y) (suc n)

      less : X → Bool
      less y = nat_lt (number y) n

      here : X → Bool
      here y = n == number y

      by : filter (λ y. nat_lt (number y) (suc n)) xs ≡ filter (λ y. nat_lt (number y) n) xs ++ filter (λ y. n == number y) xs → (b c : Bool) → nat_lt (number x) n ≡ b → (n == number x) ≡ c → filter (λ y. nat_lt (number y) (suc n)) (x ∷ xs) ≡ filter (λ y. nat_lt (number y) n) (x ∷ xs) ++ filter (λ y. n == number y) (x ∷ xs)
      by rest true true e f = absurd (grind (arith, nat_tests))
      by rest true false e f =
          let so : nat_lt (number x) (suc n) ≡ true = grind (arith, nat_tests) in
          filter_at more x xs true so ∙ ap (λ l. x ∷ l) rest ∙ sym (λ j. filter_at less x xs true e j ++ filter_at here x xs false f j)
      by rest false true e f =
          let so : nat_lt (number x) (suc n) ≡ true = grind (arith, nat_tests) in
          let is : number x ≡ n = grind (arith, nat_tests) in
          let none = none_less n xs (subst (λ m. AllByRecursion (λ y. m ≤ number y) xs) is up.0) in
          filter_at more x xs true so ∙ ap (λ l. x ∷ l) (rest ∙ ap (λ l. l ++ filter here xs) none)
          ∙ sym ((λ j. filter_at less x xs false e j ++ filter_at here x xs true f j) ∙ ap (λ l. l ++ (x ∷ filter here xs)) none)
      by rest false false e f =
          let not_so : nat_lt (number x) (suc n) ≡ false = grind (arith, nat_tests) in
          filter_at more x xs false not_so ∙ rest ∙ sym (λ j. filter_at less x xs false e j ++ filter_at here x xs false f j)

  rising_below : (n : ℕ) (xs : List X) → IsRising xs → in_order number n xs ≡ filter (λ x. nat_lt (number x) n) xs
  unfolding in_order
  rising_below zero xs up = sym (none_below_zero xs)
  rising_below (suc n) xs up = ap (λ l. l ++ filter (λ x. n == number x) xs) (rising_below n xs up) ∙ sym (below_then_at n xs up)

  -- a sorted list is in order
  pub in_order-sorted : (n : ℕ) (xs : List X) → IsNonDecreasingBy number xs → IsBelow number n xs → in_order number n xs ≡ xs
  in_order-sorted n xs up below = rising_below n xs (rising xs up) ∙ all_below n xs below
