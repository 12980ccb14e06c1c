-- Literals: one is taken exactly where it stands.
use Rattle.std.proofs.Common.{◌≡◌, ℕ, ◌<◌, Bool, true, false, cond, eqb, List, [], ◌∷◌, ◌++◌, length, Option, Some, None, refl, arith}
use Rattle.std.proofs.lemmas.Bool.{eqb-true, eq-eqb}
use Rattle.std.proofs.lemmas.Option.{none-some}
use Rattle.text_parts.specs.Readers.{◌>>=◌, after}

-- too few bytes
pub after_short : (literal bytes : List ℕ) → length bytes < length literal → after literal bytes ≡ None
after_short [] bytes few = absurd (omega (arith, few))
after_short (c ∷ cs) [] few = refl
after_short (c ∷ cs) (b ∷ bs) few = either (eqb b c) (after_short cs bs (omega (arith, few)))
  where
    either : (same : Bool) → after cs bs ≡ None → cond same (after cs bs) None ≡ None
    either true none = none
    either false none = refl

-- a test that did not fail
pub cond_taken : {A : Type 0} (b : Bool) (o : Option A) (x : A) → cond b o None ≡ Some x → (b ≡ true) × (o ≡ Some x)
cond_taken true o x e = (refl, e)
cond_taken false o x e = absurd (none-some x e)

-- a step that did not fail
pub bind_some : {A B : Type 0} (o : Option A) (f : A → Option B) (y : B) → (o >>= f) ≡ Some y → (x : A) × (o ≡ Some x) × (f x ≡ Some y)
bind_some (Some x) f y e = (x, refl, e)
bind_some None f y e = absurd (none-some y e)

-- what is taken is the literal
pub after_takes : (literal bytes rest : List ℕ) → after literal bytes ≡ Some rest → bytes ≡ literal ++ rest
after_takes [] bytes rest taken = cc
after_takes (c ∷ cs) [] rest taken = absurd cc
after_takes (c ∷ cs) (b ∷ bs) rest taken =
    let parts = cond_taken (eqb b c) (after cs bs) rest taken in
    let head = eqb-true b c parts.0 in
    let tail = after_takes cs bs rest parts.1 in
    cc

-- the literal is taken again, whatever follows
pub after_again : (literal rest : List ℕ) → after literal (literal ++ rest) ≡ Some rest
after_again [] rest = refl
after_again (c ∷ cs) rest = rw (eq-eqb c c refl) (after_again cs rest)
