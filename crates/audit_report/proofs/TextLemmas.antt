-- Texts that grow piece by piece.
use Rattle.std.proofs.Common.{◌≡◌, ℕ, zero, suc, ◌+◌, ◌<◌, List, [], ◌++◌, length, get_or, set, map, refl, sym, ap, ◌∙◌, arith, add-one}
use Rattle.std.proofs.lemmas.List.{append_assoc, get_or-map, length-map, map-set}
use Rattle.audit_report.specs.Lines.{texts_below}

-- one more text of a row of texts
pub one_text : (f : ℕ → List ℕ) (n : ℕ) (start old new : List ℕ) → old ≡ start ++ texts_below n f → new ≡ old ++ f n → new ≡ start ++ texts_below (n + 1) f
one_text f n start old new before is =
    is ∙ (ap (λ (t : List ℕ). t ++ f n) before ∙ (append_assoc start (texts_below n f) (f n) ∙ rw add-one refl))

-- equal texts make equal rows of texts
pub texts_same : (f g : ℕ → List ℕ) (n : ℕ) → ((k : ℕ) → k < n → f k ≡ g k) → texts_below n f ≡ texts_below n g
texts_same f g zero same = refl
texts_same f g (suc n) same =
    ap (λ (t : List ℕ). t ++ f n) (texts_same f g n (λ k below. same k (omega arith)))
    ∙ ap (λ (t : List ℕ). texts_below n g ++ t) (same n (omega arith))

-- an element of a list, as the view of the list has it
pub in_view : {X : Type 0} (f : X → List ℕ) (xs : List X) (view : List (List ℕ)) (i : ℕ) (x : X) → map f xs ≡ view → x ≡ get_or xs i x → i < length xs → f x ≡ get_or view i []
in_view f xs view i x same is below =
    ap f is ∙ (sym (get_or-map f xs i x [] below) ∙ ap (λ (ys : List (List ℕ)). get_or ys i []) same)

-- an element that got a text more behind it
pub view_with : {X : Type 0} (f : X → List ℕ) (xs : List X) (view : List (List ℕ)) (i j : ℕ) (x y : X) (more : List ℕ) → map f xs ≡ view → j ≡ i → x ≡ get_or xs j x → i < length view → f y ≡ f x ++ more → map f (set xs j y) ≡ set view i (get_or view i [] ++ more)
view_with f xs view i j x y more same at is below grown =
    let there : j < length xs = omega (arith, below, at, ap length same, length-map xs f) in
    map-set f xs j y
    ∙ (ap (λ (ys : List (List ℕ)). set ys j (f y)) same
    ∙ (ap (λ (n : ℕ). set view n (f y)) at
    ∙ ap (set view i) (grown ∙ ap (λ (t : List ℕ). t ++ more) (in_view f xs view j x same is there ∙ ap (λ (n : ℕ). get_or view n []) at))))
