-- Bytes that were read ahead, and the line that they begin with.
use Rattle.std.proofs.Common.{◌≡◌, ℕ, zero, suc, ◌+◌, ◌-◌, ◌<◌, ◌≤◌, Bool, true, false, ◌==◌, List, [], ◌∷◌, ◌++◌, length, take, drop, refl, sym, ap, ◌∙◌, arith, length-take}
use Rattle.std.specs.Prelude.{MatchBool, slice_index}
use Rattle.std.proofs.lemmas.Bool.{eqb-true}
use Rattle.std.proofs.lemmas.List.{drop-drop, drop-take}
use Rattle.text_input.specs.Lines.{HasNoLf}
use Rattle.line_conversation.specs.Stream.{HeldState, Takes}

-- some of the bytes from one place to another, left out
pub left_out : (bs : List ℕ) (from to n : ℕ) → from ≤ to → n ≤ length (take (to - from) (drop from bs))
    → take (to - (from + n)) (drop (from + n) bs) ≡ drop n (take (to - from) (drop from bs))
left_out bs from to n within few =
    let most : n ≤ to - from = omega (arith, few, length-take (to - from) (drop from bs)) in
    let rest : n + (to - (from + n)) ≡ to - from = omega arith in
    ap (λ (xs : List ℕ). take (to - (from + n)) xs) (sym (drop-drop n from bs))
    ∙ (sym (drop-take n (to - (from + n)) (drop from bs)) ∙ ap (λ (k : ℕ). drop n (take k (drop from bs))) rest)

-- the first LF stands at place k
pub split_at_lf : (bs : List ℕ) (k : ℕ) → k < length bs → (slice_index bs k == 10) ≡ true → bs ≡ take k bs ++ 10 ∷ drop (suc k) bs
split_at_lf [] k within here = absurd (omega arith)
split_at_lf (b ∷ bs) zero within here = ap (λ (x : ℕ). x ∷ bs) (eqb-true b 10 here)
split_at_lf (b ∷ bs) (suc k) within here = ap (λ (xs : List ℕ). b ∷ xs) (split_at_lf bs k (omega arith) here)

-- before it there is none
pub none_in_front : (bs : List ℕ) (k : ℕ) → ((j : ℕ) → j < k → (slice_index bs j == 10) ≡ true → ⊥) → HasNoLf (take k bs)
none_in_front bs zero none i within = absurd (omega (arith, within))
none_in_front [] (suc k) none i within = absurd (omega (arith, within))
none_in_front (b ∷ bs) (suc k) none zero within = none 0 (omega arith)
none_in_front (b ∷ bs) (suc k) none (suc i) within =
    none_in_front bs k (λ j low. none (suc j) (omega arith)) i (omega (arith, within))

-- what stands behind a line's LF
behind_lf : (line rest : List ℕ) → drop (suc (length line)) (line ++ 10 ∷ rest) ≡ rest
behind_lf [] rest = refl
behind_lf (b ∷ line) rest = behind_lf line rest

-- the bytes up to an LF were taken, and the LF was left out
pub taken_with_lf : (ends : Bool) (bytes part rest : List ℕ) (old new : HeldState) → ends ≡ true
    → MatchBool ends ((more : List ℕ) × (bytes ≡ part ++ 10 ∷ more) × HasNoLf part) ((bytes ≡ part) × HasNoLf part)
    → rest ≡ drop (length part + 1) bytes → Takes part old new
    → MatchBool ends ((line : List ℕ) × (bytes ≡ line ++ 10 ∷ rest) × HasNoLf line × Takes line old new) (HasNoLf bytes × (rest ≡ []) × Takes bytes old new)
taken_with_lf true bytes part rest old new is (more, split, none) left takes =
    let next : length part + 1 ≡ suc (length part) = omega arith in
    let same : rest ≡ more =
    left ∙ (ap (λ (n : ℕ). drop n bytes) next ∙ (ap (drop (suc (length part))) split ∙ behind_lf part more)) in
    (part, split ∙ ap (λ (xs : List ℕ). part ++ 10 ∷ xs) (sym same), none, takes)
taken_with_lf false bytes part rest old new is m left takes = absurd (cc)

-- one of two, where the test is known
pub case_true : (b : Bool) (A B : Type 0) → b ≡ true → MatchBool b A B → A
case_true true A B is m = m
case_true false A B is m = absurd (cc)

pub case_false : (b : Bool) (A B : Type 0) → b ≡ false → MatchBool b A B → B
case_false false A B is m = m
case_false true A B is m = absurd (cc)
