-- Texts that are written part by part.
use Rattle.std.proofs.Common.{◌≡◌, ℕ, List, ◌++◌, Ok, Err, ap, ◌∙◌, append_assoc}
use Rattle.std.specs.Prelude.{IfOk, Result, is_ok, if◌then◌else◌}
use Rattle.std.specs.declared.alloc.AllocError.{AllocError}

-- a last part behind the others
pub pushed : (answer : Result (Unit {0}) AllocError) (old mid new front back : List ℕ) → new ≡ (if is_ok answer then mid ++ back else mid) → mid ≡ old ++ front
    → IfOk answer (λ _. new ≡ old ++ (front ++ back))
pushed (Ok x) old mid new front back is first = is ∙ (ap (λ (t : List ℕ). t ++ back) first ∙ append_assoc old front back)
pushed (Err e) old mid new front back is first = tt

-- the same for a whole text that depends on what is shown
pub pushed_for : {X : Type 0} (P : X → Type 0) (answer : Result (Unit {0}) AllocError) (old mid new back : List ℕ) (front : X → List ℕ) → new ≡ (if is_ok answer then mid ++ back else mid)
    → ((x : X) → P x → mid ≡ old ++ front x) → IfOk answer (λ _. (x : X) → P x → new ≡ old ++ (front x ++ back))
pushed_for P (Ok y) old mid new back front is first = λ x p. is ∙ (ap (λ (t : List ℕ). t ++ back) (first x p) ∙ append_assoc old (front x) back)
pushed_for P (Err e) old mid new back front is first = tt

-- three parts, one behind the other
pub three_parts : (old one two three a b c : List ℕ) → one ≡ old ++ a → two ≡ one ++ b → three ≡ two ++ c → three ≡ old ++ ((a ++ b) ++ c)
three_parts old one two three a b c first second third =
    third ∙ (ap (λ (t : List ℕ). t ++ c) (second ∙ (ap (λ (t : List ℕ). t ++ b) first ∙ append_assoc old a b)) ∙ append_assoc old (a ++ b) c)
