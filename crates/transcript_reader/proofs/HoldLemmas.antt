-- What holds of each value that a reading gives.
use Rattle.std.proofs.Common.{◌≡◌, ℕ, Bool, true, false, cond, eqb, List, ◌∷◌, ◌++◌, Option, Some, None, refl, sym, subst}
use Rattle.std.proofs.lemmas.Bool.{eqb-true}
use Rattle.std.proofs.lemmas.Option.{same_Some, none-some}
use Rattle.text_parts.specs.Readers.{◌>>=◌, after}
use Rattle.text_parts.proofs.LiteralLaws.{after_takes}

-- P holds of what is there
abbrev pub Holds : {A : Type 0} → (A → Type 0) → Option A → Type 0
Holds P None = Unit {0}
Holds P (Some x) = P x

pub held_by : {A : Type 0} (P : A → Type 0) (o : Option A) (x : A) → Holds P o → o ≡ Some x → P x
held_by P None x holds is = absurd (none-some x is)
held_by P (Some y) x holds is = subst P (same_Some y x is) holds

-- P holds of what is there on either side of a test
pub when_holds : {A : Type 0} (P : A → Type 0) (b : Bool) (o p : Option A) → (b ≡ true → Holds P o) → (b ≡ false → Holds P p) → Holds P (cond b o p)
when_holds P true o p one other = one refl
when_holds P false o p one other = other refl

pub if_holds : {A : Type 0} (P : A → Type 0) (b : Bool) (o p : Option A) → Holds P o → Holds P p → Holds P (cond b o p)
if_holds P true o p one other = one
if_holds P false o p one other = other

-- .. of a test for the first byte
pub letter_holds : {A : Type 0} (Says : List ℕ → A → Type 0) (k b : ℕ) (bs : List ℕ) (o p : Option A) → Holds (Says (k ∷ bs)) o → Holds (Says (b ∷ bs)) p → Holds (Says (b ∷ bs)) (cond (eqb b k) o p)
letter_holds Says k b bs o p one other =
    when_holds (Says (b ∷ bs)) (eqb b k) o p (λ e. subst (λ (n : ℕ). Holds (Says (n ∷ bs)) o) (sym (eqb-true b k e)) one) (λ e. other)

pub still_holds : {A : Type 0} (P Q : A → Type 0) (o : Option A) → ((x : A) → P x → Q x) → Holds P o → Holds Q o
still_holds P Q None each holds = tt
still_holds P Q (Some x) each holds = each x holds

-- .. behind a step
pub then_holds : {A B : Type 0} (Q : A → Type 0) (P : B → Type 0) (o : Option A) (f : A → Option B) → Holds Q o → ((x : A) → Q x → Holds P (f x)) → Holds P (o >>= f)
then_holds Q P None f holds each = tt
then_holds Q P (Some x) f holds each = each x holds

-- .. behind a literal
pub literal_holds : (literal bytes : List ℕ) → Holds (λ rest. bytes ≡ literal ++ rest) (after literal bytes)
literal_holds literal bytes = at (after literal bytes) refl
  where
    at : (o : Option (List ℕ)) → after literal bytes ≡ o → Holds (λ rest. bytes ≡ literal ++ rest) o
    at None e = tt
    at (Some rest) e = after_takes literal bytes rest e
