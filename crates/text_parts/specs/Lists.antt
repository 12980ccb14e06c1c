-- How a list is written in compact JSON (RFC 8259): its elements, each behind the first after a comma.
use Rattle.std.specs.Prelude.{ℕ, List, [], ◌∷◌, ◌++◌, codes}

-- the elements behind the first, each after a comma
abbrev pub later : {A : Type 0} → (A → List ℕ) → List A → List ℕ
later text [] = []
later text (x ∷ xs) = codes "," ++ (text x ++ later text xs)

-- the elements, with commas between them
abbrev pub joined : {A : Type 0} → (A → List ℕ) → List A → List ℕ
joined text [] = []
joined text (x ∷ xs) = text x ++ later text xs
