-- Text between quotes: how it is written.
use Rattle.std.proofs.Common.{◌≡◌, ℕ, ◌+◌, ◌-◌, ◌<◌, ◌≤◌, Bool, true, false, cond, ◌||◌, eqb, List, [], ◌∷◌, ◌++◌, length, get_or, take, drop, refl, sym, ap, ◌∙◌, append_assoc, ◌⊎◌, inl, inr, arith}
use Rattle.std.proofs.lemmas.List.{take_more, get_or-drop, length-drop}
use Rattle.std.proofs.lemmas.Bool.{cases_eq, ne_eqb, false≢true}
use Rattle.transcript_text.specs.Quoted.{escaped}

pub escaped-append : (a b : List ℕ) → escaped (a ++ b) ≡ escaped a ++ escaped b
escaped-append [] b = refl
escaped-append (x ∷ xs) b = at ((eqb x 34) || (eqb x 92)) (escaped-append xs b)
  where
    at : (special : Bool) → escaped (xs ++ b) ≡ escaped xs ++ escaped b
        → cond special (92 ∷ (x ∷ escaped (xs ++ b))) (x ∷ escaped (xs ++ b)) ≡ cond special (92 ∷ (x ∷ escaped xs)) (x ∷ escaped xs) ++ escaped b
    at true e = ap (λ (ys : List ℕ). 92 ∷ (x ∷ ys)) e
    at false e = ap (λ (ys : List ℕ). x ∷ ys) e

-- one byte more of a text
byte_more : (part : List ℕ) (i b : ℕ) → i < length part → b ≡ get_or part i 0 → escaped (take (i + 1) part) ≡ escaped (take i part) ++ escaped (b ∷ [])
byte_more part i b below is =
    ap escaped (take_more part i 0 below)
    ∙ (escaped-append (take i part) (get_or part i 0 ∷ []) ∙ ap (λ (x : ℕ). escaped (take i part) ++ escaped (x ∷ [])) (sym is))

-- the bytes that are still to be written, with one more
pending_more : (part : List ℕ) (from i b : ℕ) → from ≤ i → i < length part → b ≡ get_or part i 0
    → take ((i + 1) - from) (drop from part) ≡ take (i - from) (drop from part) ++ b ∷ []
pending_more part from i b low below is =
    let count : (i + 1) - from ≡ (i - from) + 1 = omega arith in
    let place : from + (i - from) ≡ i = omega arith in
    let there : i - from < length (drop from part) = omega (arith, length-drop from part) in
    let byte : get_or (drop from part) (i - from) 0 ≡ b = get_or-drop from part (i - from) 0 ∙ (ap (λ (k : ℕ). get_or part k 0) place ∙ sym is) in
    ap (λ (k : ℕ). take k (drop from part)) count
    ∙ (take_more (drop from part) (i - from) 0 there ∙ ap (λ (x : ℕ). take (i - from) (drop from part) ++ x ∷ []) byte)

pub plain_step : (t t0 part : List ℕ) (from i b : ℕ) → from ≤ i → i < length part → b ≡ get_or part i 0 → ((eqb b 34) || (eqb b 92)) ≡ false
    → t ++ take (i - from) (drop from part) ≡ t0 ++ escaped (take i part)
    → t ++ take ((i + 1) - from) (drop from part) ≡ t0 ++ escaped (take (i + 1) part)
plain_step t t0 part from i b low below is plain so_far =
    let same : escaped (b ∷ []) ≡ b ∷ [] = rw plain refl in
    rw (pending_more part from i b low below is, byte_more part i b below is, same)
    (sym (append_assoc t (take (i - from) (drop from part)) (b ∷ [])) ∙ (ap (λ (x : List ℕ). x ++ b ∷ []) so_far ∙ append_assoc t0 (escaped (take i part)) (b ∷ [])))

pub special_step : (t t1 t2 t0 part : List ℕ) (from i b : ℕ) → i < length part → b ≡ get_or part i 0 → ((eqb b 34) || (eqb b 92)) ≡ true
    → t1 ≡ t ++ take (i - from) (drop from part) → t2 ≡ t1 ++ 92 ∷ []
    → t ++ take (i - from) (drop from part) ≡ t0 ++ escaped (take i part)
    → t2 ++ take ((i + 1) - i) (drop i part) ≡ t0 ++ escaped (take (i + 1) part)
special_step t t1 t2 t0 part from i b below is special run mark so_far =
    let two : escaped (b ∷ []) ≡ 92 ∷ (b ∷ []) = rw special refl in
    let none : i - i ≡ 0 = omega arith in
    let one : take ((i + 1) - i) (drop i part) ≡ b ∷ [] =
    pending_more part i i b (omega arith) below is ∙ ap (λ (k : ℕ). take k (drop i part) ++ b ∷ []) none in
    rw (one, byte_more part i b below is, two, mark, run, so_far) (simp append_assoc)

-- a byte with a backslash in front of it is no part of a wider character
pub special_low : (b : ℕ) → ((eqb b 34) || (eqb b 92)) ≡ true → b < 128
special_low b special = at (cases_eq b 34) (cases_eq b 92)
  where
    at : (b ≡ 34) ⊎ (b ≡ 34 → ⊥) → (b ≡ 92) ⊎ (b ≡ 92 → ⊥) → b < 128
    at (inl quote) other = omega (arith, quote)
    at (inr no_quote) (inl backslash) = omega (arith, backslash)
    at (inr no_quote) (inr no_backslash) =
        let q : eqb b 34 ≡ false = ne_eqb b 34 no_quote in
        let s : eqb b 92 ≡ false = ne_eqb b 92 no_backslash in
        let plain : ((eqb b 34) || (eqb b 92)) ≡ false = rw (q, s) refl in
        absurd (false≢true (sym plain ∙ special))
