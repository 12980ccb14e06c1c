-- From counters to the operations that they name: the greater of two counters names the union.
use Rattle.std.proofs.Common.{◌≡◌, ℕ, ◌<◌, ◌≤◌, ◌⊎◌, ◌↔◌, inl, inr, max, arith}
use Rattle.std.proofs.lemmas.Bool.{cases_lt}
use Rattle.merge_core.specs.Naming.{ReachesUnit}

-- what the greater of two counters names is what either names
pub ReachesUnit-max : (a b k : ℕ) → ReachesUnit (max a b) k ↔ (ReachesUnit a k ⊎ ReachesUnit b k)
ReachesUnit-max a b k = (λ h. forth h (cases_lt a k), back)
  where
    forth : ReachesUnit (max a b) k → (a < k) ⊎ (k ≤ a) → ReachesUnit a k ⊎ ReachesUnit b k
    forth h (inl above) = inr (h.0, omega (arith, h.1))
    forth h (inr within) = inl (h.0, within)

    back : ReachesUnit a k ⊎ ReachesUnit b k → ReachesUnit (max a b) k
    back (inl h) = (h.0, omega (arith, h.1))
    back (inr h) = (h.0, omega (arith, h.1))

-- a counter is at most another where it names no more
pub le-from_units : (a b : ℕ) → ((k : ℕ) → ReachesUnit a k → ReachesUnit b k) → a ≤ b
le-from_units a b h = at_zero (cases_lt 0 a)
  where
    at_zero : (0 < a) ⊎ (a ≤ 0) → a ≤ b
    at_zero (inl positive) = (h a (positive, omega arith)).1
    at_zero (inr none) = omega arith

pub units-from_le : (a b : ℕ) → a ≤ b → (k : ℕ) → ReachesUnit a k → ReachesUnit b k
units-from_le a b h k reaches = (reaches.0, omega (arith, reaches.1))

-- counters that name the same are equal
pub same-from_units : (a b : ℕ) → ((k : ℕ) → ReachesUnit a k ↔ ReachesUnit b k) → a ≡ b
same-from_units a b h =
    let below : a ≤ b = le-from_units a b (λ k. (h k).0) in
    let above : b ≤ a = le-from_units b a (λ k. (h k).1) in
    omega arith

pub units-from_same : (a b : ℕ) → a ≡ b → (k : ℕ) → ReachesUnit a k ↔ ReachesUnit b k
units-from_same a b same k = (units-from_le a b (omega arith) k, units-from_le b a (omega arith) k)
