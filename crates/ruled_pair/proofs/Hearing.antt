-- A text more in the report of a receiving end.
use Rattle.std.proofs.Common.{◌≡◌, ℕ, ◌+◌, Bool, true, false, true≢false, cond, List, [], ◌∷◌, ◌++◌, length, drop, refl, sym, ap, subst, ◌∙◌, arith, append_assoc, append-nil, length-append}
use Rattle.std.proofs.lemmas.List.{drop-append-le, length-drop}
use Rattle.std.proofs.lemmas.List.Sums.{sum_by-append, sum_by-cons}
use Rattle.std.specs.Prelude.{◌||◌}
use Rattle.session_book.specs.declared.pass.Receipt.{Receipt}
use Rattle.exchange_threads.specs.declared.fate.Fate.{Fate}
use Rattle.exchange_threads.specs.declared.fate.Fate.TheVariants.{Merge, NoDelta, Memory, Ended}
use Rattle.exchange_threads.specs.Fates.{IsFateOf, is_ended, fate_lacks}
use Rattle.ruled_pair.specs.Heard.{AreFated, AreHeard, any_ended, is_lacking}

or_false : (a b : Bool) → (a || b) ≡ false → (a ≡ false) × (b ≡ false)
or_false true b is = absurd (true≢false is)
or_false false b is = (refl, is)

ended_one : (fs : List Fate) (f : Fate) → any_ended fs ≡ false → any_ended (fs ++ f ∷ []) ≡ is_ended f
ended_one [] Ended none = refl
ended_one [] (Merge at) none = refl
ended_one [] NoDelta none = refl
ended_one [] Memory none = refl
ended_one (g ∷ fs) f none =
    let both : (is_ended g ≡ false) × (any_ended fs ≡ false) = or_false (is_ended g) (any_ended fs) none in
    ap (λ (b : Bool). b || any_ended (fs ++ f ∷ [])) both.0 ∙ ended_one fs f both.1

lacking_one : (f : Fate) → cond (is_lacking f) 1 0 ≡ fate_lacks f
lacking_one (Merge at) = refl
lacking_one NoDelta = refl
lacking_one Memory = refl
lacking_one Ended = refl

fated_one : (n : ℕ) (ts : List (List ℕ)) (fs : List Fate) (rs added : List Receipt) (t : List ℕ) (f : Fate) → any_ended fs ≡ false → AreFated n ts fs rs → IsFateOf t f (n + length rs) added
    → AreFated n (ts ++ t ∷ []) (fs ++ f ∷ []) (rs ++ added)
fated_one n [] [] rs added t f none are is = (
  added,
  [],
  ap (λ (xs : List Receipt). xs ++ added) are ∙ sym (append-nil added),
  subst (λ (k : ℕ). IsFateOf t f k added) (omega (arith, ap (λ (xs : List Receipt). length xs) are)) is,
  (λ _. refl),
  refl,
)
fated_one n [] (g ∷ fs) rs added t f none are is = absurd are
fated_one n (s ∷ ts) [] rs added t f none are is = absurd are
fated_one n (s ∷ ts) (g ∷ fs) rs added t f none are is =
    let both : (is_ended g ≡ false) × (any_ended fs ≡ false) = or_false (is_ended g) (any_ended fs) none in
    let long : length rs ≡ length are.0 + length are.1 = ap (λ (xs : List Receipt). length xs) are.2 ∙ length-append are.0 are.1 in (
      are.0,
      are.1 ++ added,
      ap (λ (xs : List Receipt). xs ++ added) are.2 ∙ append_assoc are.0 are.1 added,
      are.3,
      (λ ends. absurd (true≢false (sym ends ∙ both.0))),
      fated_one (n + length are.0) ts fs are.1 added t f both.1 are.5 (subst (λ (k : ℕ). IsFateOf t f k added) (omega (arith, long)) is),
    )

pub heard_one : (rs added : List Receipt) (first : ℕ) (texts : List (List ℕ)) (fates : List Fate) (m : ℕ) (t : List ℕ) (f : Fate) → AreHeard rs first texts fates m false → IsFateOf t f (length rs) added
    → AreHeard (rs ++ added) first (texts ++ t ∷ []) (fates ++ f ∷ []) (m + fate_lacks f) (is_ended f)
heard_one rs added first texts fates m t f heard is = record {
  begun = omega (arith, heard.begun, length-append rs added);
  fated =
      subst (λ (xs : List Receipt). AreFated first (texts ++ t ∷ []) (fates ++ f ∷ []) xs) (sym (drop-append-le first rs added heard.begun))
      (fated_one first texts fates (drop first rs) added t f heard.ends heard.fated
      (subst (λ (k : ℕ). IsFateOf t f k added) (omega (arith, heard.begun, length-drop first rs)) is));
  lacking = omega (arith, heard.lacking, sum_by-append (λ g. cond (is_lacking g) 1 0) fates (f ∷ []), sum_by-cons (λ g. cond (is_lacking g) 1 0) f [], lacking_one f);
  ends = ended_one fates f heard.ends;
}

-- the report of a take, and of what came of it
pub heard_note : (rs added : List Receipt) (first : ℕ) (texts texts' : List (List ℕ)) (fates fates' : List Fate) (m : ℕ) (t : List ℕ) (f : Fate) → AreHeard rs first texts fates m false
    → IsFateOf t f (length rs) added → texts' ≡ texts ++ t ∷ [] → fates' ≡ fates ++ f ∷ [] → AreHeard (rs ++ added) first texts' fates' (m + fate_lacks f) (is_ended f)
heard_note rs added first texts texts' fates fates' m t f heard is are come =
    subst (λ (fs : List Fate). AreHeard (rs ++ added) first texts' fs (m + fate_lacks f) (is_ended f)) (sym come)
    (subst (λ (ts : List (List ℕ)). AreHeard (rs ++ added) first ts (fates ++ f ∷ []) (m + fate_lacks f) (is_ended f)) (sym are)
    (heard_one rs added first texts fates m t f heard is))
