-- Lists written element by element.
use Rattle.std.proofs.Common.{◌≡◌, ℕ, ◌+◌, ◌<◌, List, [], ◌∷◌, ◌++◌, length, get_or, take, codes, sym, ap, ◌∙◌, append_assoc, append-nil}
use Rattle.std.proofs.lemmas.List.{take_more}
use Rattle.text_parts.specs.Lists.{later}

without_nil : (c t : List ℕ) → c ++ (t ++ []) ≡ c ++ t
without_nil c t = simp append-nil

later_push : {A : Type 0} (text : A → List ℕ) (xs : List A) (x : A) → later text (xs ++ x ∷ []) ≡ later text xs ++ (codes "," ++ text x)
later_push text [] x = without_nil (codes ",") (text x)
later_push text (y ∷ ys) x = rw (later_push text ys x) (simp append_assoc)

-- an element more behind the first: a comma, and its text
pub more_later : {A : Type 0} (text : A → List ℕ) (xs : List A) (i : ℕ) (x : A) (b0 b1 b2 b3 : List ℕ) → i < length xs → x ≡ get_or xs i x → b1 ≡ b0 ++ later text (take i xs) → b2 ≡ b1 ++ codes "," → b3 ≡ b2 ++ text x → b3 ≡ b0 ++ later text (take (i + 1) xs)
more_later text xs i x b0 b1 b2 b3 inside here e1 e2 e3 =
    let front = take_more xs i x inside ∙ ap (λ y. take i xs ++ y ∷ []) (sym here) in
    let more = ap (later text) front ∙ later_push text (take i xs) x in
    rw (more, e3, e2, e1) (simp append_assoc)
