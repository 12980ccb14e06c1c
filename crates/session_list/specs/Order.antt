-- The items of a list in the order of a number that each of them has.
use Rattle.std.specs.Prelude.{ℕ, ◌==◌, List, [], ◌++◌, filter}
use Rattle.std.proofs.Common.{zero, suc}

-- the items whose number is below a limit, in the order of their numbers
unfoldable pub in_order : {X : Type 0} → (X → ℕ) → ℕ → List X → List X
in_order number zero xs = []
in_order number (suc n) xs = in_order number n xs ++ filter (λ x. n == number x) xs
