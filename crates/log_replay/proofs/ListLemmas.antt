-- A list that is walked down: its first element and the others.
use Rattle.std.proofs.Common.{◌≡◌, ◌-◌, ◌<◌, ◌≤◌, List, [], ◌∷◌, length, get_or, take, drop, refl, sym, ap, ◌∙◌, arith}
use Rattle.std.proofs.lemmas.List.{take_all}

-- a list that is not empty is its first element and what a pattern binds behind it
pub parts : {X : Type 0} (xs : List X) (x : X) → 1 ≤ length xs → x ≡ get_or xs 0 x → xs ≡ x ∷ take (length xs - 1) (drop 1 xs)
parts [] x some is = absurd (omega arith)
parts (y ∷ ys) x some is =
    let fewer : length (y ∷ ys) - 1 ≡ length ys = omega arith in
    (λ i. sym is i ∷ ys) ∙ ap (λ (zs : List _). x ∷ zs) (sym (take_all (length (y ∷ ys) - 1) ys (omega (arith, fewer))))

-- one that has none is empty
pub none_left : {X : Type 0} (xs : List X) → length xs < 1 → xs ≡ []
none_left [] none = refl
none_left (x ∷ xs) none = absurd (omega arith)
