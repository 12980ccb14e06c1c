-- Counting a name in the map is counting it in the list.
use Rattle.std.proofs.Common.{◌≡◌, ℕ, ◌+◌, ◌≤◌, Bool, true, false, cond, List, [], ◌∷◌, Option, Some, None, length, refl, sym, ap, arith, true≢false}
use Rattle.std.proofs.lemmas.List.Sums.{sum_by-cons}
use Rattle.std.specs.Map.{lookup}
use Rattle.indexmap.specs.IndexMap.{insert_entry}
use Rattle.exchange_threads.specs.contracts.names.RefusalNamePartialEq.TheImpl as derived
use Rattle.exchange_threads.specs.declared.names.RefusalName.{RefusalName}
use Rattle.exchange_threads.specs.declared.names.RefusalName.TheVariants.{TooLong, NotUtf8, NotJson, NotCanonical, OtherLayout, BadRow, OwnRowAhead, StoreFault}
use Rattle.exchange_threads.specs.Names.{same_name}
use Rattle.exchange_threads.specs.Counts.{count_of, count_name, count_names, count_total}
use Rattle.exchange_threads.specs.Inbox.{name_list}

-- how the map compares names
abbrev pub map_eq : RefusalName → RefusalName → Bool
map_eq = derived.eq-value.it

map_eq_is : (a b : RefusalName) → map_eq a b ≡ same_name a b
map_eq_is TooLong TooLong = refl
map_eq_is TooLong NotUtf8 = refl
map_eq_is TooLong NotJson = refl
map_eq_is TooLong NotCanonical = refl
map_eq_is TooLong OtherLayout = refl
map_eq_is TooLong BadRow = refl
map_eq_is TooLong OwnRowAhead = refl
map_eq_is TooLong StoreFault = refl
map_eq_is NotUtf8 TooLong = refl
map_eq_is NotUtf8 NotUtf8 = refl
map_eq_is NotUtf8 NotJson = refl
map_eq_is NotUtf8 NotCanonical = refl
map_eq_is NotUtf8 OtherLayout = refl
map_eq_is NotUtf8 BadRow = refl
map_eq_is NotUtf8 OwnRowAhead = refl
map_eq_is NotUtf8 StoreFault = refl
map_eq_is NotJson TooLong = refl
map_eq_is NotJson NotUtf8 = refl
map_eq_is NotJson NotJson = refl
map_eq_is NotJson NotCanonical = refl
map_eq_is NotJson OtherLayout = refl
map_eq_is NotJson BadRow = refl
map_eq_is NotJson OwnRowAhead = refl
map_eq_is NotJson StoreFault = refl
map_eq_is NotCanonical TooLong = refl
map_eq_is NotCanonical NotUtf8 = refl
map_eq_is NotCanonical NotJson = refl
map_eq_is NotCanonical NotCanonical = refl
map_eq_is NotCanonical OtherLayout = refl
map_eq_is NotCanonical BadRow = refl
map_eq_is NotCanonical OwnRowAhead = refl
map_eq_is NotCanonical StoreFault = refl
map_eq_is OtherLayout TooLong = refl
map_eq_is OtherLayout NotUtf8 = refl
map_eq_is OtherLayout NotJson = refl
map_eq_is OtherLayout NotCanonical = refl
map_eq_is OtherLayout OtherLayout = refl
map_eq_is OtherLayout BadRow = refl
map_eq_is OtherLayout OwnRowAhead = refl
map_eq_is OtherLayout StoreFault = refl
map_eq_is BadRow TooLong = refl
map_eq_is BadRow NotUtf8 = refl
map_eq_is BadRow NotJson = refl
map_eq_is BadRow NotCanonical = refl
map_eq_is BadRow OtherLayout = refl
map_eq_is BadRow BadRow = refl
map_eq_is BadRow OwnRowAhead = refl
map_eq_is BadRow StoreFault = refl
map_eq_is OwnRowAhead TooLong = refl
map_eq_is OwnRowAhead NotUtf8 = refl
map_eq_is OwnRowAhead NotJson = refl
map_eq_is OwnRowAhead NotCanonical = refl
map_eq_is OwnRowAhead OtherLayout = refl
map_eq_is OwnRowAhead BadRow = refl
map_eq_is OwnRowAhead OwnRowAhead = refl
map_eq_is OwnRowAhead StoreFault = refl
map_eq_is StoreFault TooLong = refl
map_eq_is StoreFault NotUtf8 = refl
map_eq_is StoreFault NotJson = refl
map_eq_is StoreFault NotCanonical = refl
map_eq_is StoreFault OtherLayout = refl
map_eq_is StoreFault BadRow = refl
map_eq_is StoreFault OwnRowAhead = refl
map_eq_is StoreFault StoreFault = refl

total_cons : (e : RefusalName × ℕ) (es : List (RefusalName × ℕ)) → count_total (e ∷ es) ≡ e.1 + count_total es
total_cons e es = sum_by-cons (λ (x : RefusalName × ℕ). x.1) e es

-- no count is above all together
pub count_within : (es : List (RefusalName × ℕ)) (name : RefusalName) → count_of es name ≤ count_total es
count_within [] name = omega arith
count_within (e ∷ es) name = at (same_name name e.0) (count_within es name)
  where
    at : (b : Bool) → count_of es name ≤ count_total es → cond b e.1 (count_of es name) ≤ count_total (e ∷ es)
    at true rest = omega (arith, total_cons e es)
    at false rest = omega (arith, total_cons e es, rest)

-- a name more makes all together one more
pub total_named : (es : List (RefusalName × ℕ)) (name : RefusalName) → count_total (count_name es name) ≡ count_total es + 1
total_named [] name = omega (arith, total_cons (name, 1) [])
total_named (e ∷ es) name = at (same_name name e.0) (total_named es name)
  where
    at : (b : Bool) → count_total (count_name es name) ≡ count_total es + 1 → count_total (cond b ((e.0, e.1 + 1) ∷ es) (e ∷ count_name es name)) ≡ count_total (e ∷ es) + 1
    at true rest = omega (arith, total_cons (e.0, e.1 + 1) es, total_cons e es)
    at false rest = omega (arith, total_cons e (count_name es name), total_cons e es, rest)

-- a name, if there is one
pub total_noted : (es : List (RefusalName × ℕ)) (o : Option RefusalName) → count_total (count_names es (name_list o)) ≡ count_total es + length (name_list o)
total_noted es None = omega arith
total_noted es (Some name) = omega (arith, total_named es name)

-- what a look-up finds is the count
pub count_found : (es : List (RefusalName × ℕ)) (name : RefusalName) (n : ℕ) → Some n ≡ lookup (map_eq name) es → n ≡ count_of es name
count_found [] name n is = cc
count_found (e ∷ es) name n is = at (map_eq name e.0) (same_name name e.0) (map_eq_is name e.0) (count_found es name n) is
  where
    at : (b c : Bool) → b ≡ c → (Some n ≡ lookup (map_eq name) es → n ≡ count_of es name) → Some n ≡ cond b (Some e.1) (lookup (map_eq name) es) → n ≡ cond c e.1 (count_of es name)
    at true true same rest is = cc
    at false false same rest is = rest is
    at true false same rest is = absurd (true≢false same)
    at false true same rest is = absurd (true≢false (sym same))

-- what is not found has no count
pub count_absent : (es : List (RefusalName × ℕ)) (name : RefusalName) → None ≡ lookup (map_eq name) es → 0 ≡ count_of es name
count_absent [] name is = refl
count_absent (e ∷ es) name is = at (map_eq name e.0) (same_name name e.0) (map_eq_is name e.0) (count_absent es name) is
  where
    at : (b c : Bool) → b ≡ c → (None ≡ lookup (map_eq name) es → 0 ≡ count_of es name) → None ≡ cond b (Some e.1) (lookup (map_eq name) es) → 0 ≡ cond c e.1 (count_of es name)
    at true true same rest is = cc
    at false false same rest is = rest is
    at true false same rest is = absurd (true≢false same)
    at false true same rest is = absurd (true≢false (sym same))

-- to put one more than the count is to count once more
pub insert_counts : (es : List (RefusalName × ℕ)) (name : RefusalName) → insert_entry map_eq es name (count_of es name + 1) ≡ count_name es name
insert_counts [] name = refl
insert_counts (e ∷ es) name = at (map_eq name e.0) (same_name name e.0) (map_eq_is name e.0) (insert_counts es name)
  where
    at : (b c : Bool) → b ≡ c → insert_entry map_eq es name (count_of es name + 1) ≡ count_name es name
        → cond b ((e.0, cond c e.1 (count_of es name) + 1) ∷ es) (e ∷ insert_entry map_eq es name (cond c e.1 (count_of es name) + 1)) ≡ cond c ((e.0, e.1 + 1) ∷ es) (e ∷ count_name es name)
    at true true same rest = refl
    at false false same rest = ap (λ (xs : List (RefusalName × ℕ)). e ∷ xs) rest
    at true false same rest = absurd (true≢false same)
    at false true same rest = absurd (true≢false (sym same))
