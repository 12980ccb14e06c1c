-- Lists in strictly rising order, and an element put into one at its place.
use Rattle.std.specs.Prelude.{Bool, List, [], ◌∷◌, IsTrue, if◌then◌else◌}
use Rattle.std.specs.List.{AllByRecursion}

-- each element stands before each later one
abbrev pub IsRising : {X : Type 0} → (X → X → Bool) → List X → Type 0
IsRising before [] = Unit {0}
IsRising before (x ∷ xs) = AllByRecursion (λ y. IsTrue (before x y)) xs × IsRising before xs

-- a list with an element put at its place, and in place of the one that stands there
abbrev pub put : {X : Type 0} → (X → X → Bool) → X → List X → List X
put before x [] = x ∷ []
put before x (y ∷ ys) = if before x y then x ∷ (y ∷ ys) else (if before y x then y ∷ put before x ys else x ∷ ys)

-- a list with others put at their places, in turn
abbrev pub put_all : {X : Type 0} → (X → X → Bool) → List X → List X → List X
put_all before [] xs = xs
put_all before (c ∷ cs) xs = put_all before cs (put before c xs)
