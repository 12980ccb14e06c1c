-- Rising rows: what is between neighbours holds between any two.
use Rattle.std.proofs.Common.{◌≡◌, ℕ, zero, suc, ◌+◌, ◌-◌, ◌<◌, ◌≤◌, inl, inr, List, [], ◌∷◌, length, get_or, take, All, sym, ◌∙◌, subst, arith}
use Rattle.std.proofs.lemmas.List.{get_or_default, take_all}
use Rattle.std.proofs.lemmas.List.Elements.{All-more}
use Rattle.std.specs.List.{AllByRecursion}
use Rattle.merge_core.specs.declared.delta.Row.{Row}
use Rattle.merge_core.specs.Delta.{ComesBefore, IsRising}

pub ComesBefore-trans : (p q r : Row) → ComesBefore p q → ComesBefore q r → ComesBefore p r
ComesBefore-trans p q r (inl a) (inl b) = inl (omega arith)
ComesBefore-trans p q r (inl a) (inr b) = inl (omega arith)
ComesBefore-trans p q r (inr a) (inl b) = inl (omega arith)
ComesBefore-trans p q r (inr a) (inr b) = inr (omega arith, omega arith)

comes_before_all : (p q : Row) → ComesBefore p q → (rs : List Row) → AllByRecursion (ComesBefore q) rs → AllByRecursion (ComesBefore p) rs
comes_before_all p q h [] all = tt
comes_before_all p q h (r ∷ rs) all = (ComesBefore-trans p q r h all.0, comes_before_all p q h rs all.1)

-- rows rise where each stands before the next
pub IsRising-from_neighbours : (rows : List Row) → ((k : ℕ) (d : Row) → suc k < length rows → ComesBefore (get_or rows k d) (get_or rows (suc k) d)) → IsRising rows
IsRising-from_neighbours [] h = tt
IsRising-from_neighbours (p ∷ []) h = (tt, tt)
IsRising-from_neighbours (p ∷ (q ∷ rs)) h =
    let rest = IsRising-from_neighbours (q ∷ rs) (λ k d below. h (suc k) d (omega arith)) in
    let first : ComesBefore p q = h 0 p (omega arith) in
    ((first, comes_before_all p q first rs rest.0), rest)

at_all : (p : Row) (rs : List Row) (k : ℕ) (d : Row) → AllByRecursion (ComesBefore p) rs → k < length rs → ComesBefore p (get_or rs k d)
at_all p [] k d all below = absurd (omega arith)
at_all p (r ∷ rs) zero d all below = all.0
at_all p (r ∷ rs) (suc k) d all below = at_all p rs k d all.1 (omega arith)

-- of two rows of a rising list the earlier one stands before the later one
pub IsRising-at : (rows : List Row) (i j : ℕ) (d : Row) → IsRising rows → i < j → j < length rows → ComesBefore (get_or rows i d) (get_or rows j d)
IsRising-at [] i j d rising ordered below = absurd (omega arith)
IsRising-at (p ∷ ps) i zero d rising ordered below = absurd (omega arith)
IsRising-at (p ∷ ps) zero (suc j) d rising ordered below = at_all p ps j d rising.0 (omega arith)
IsRising-at (p ∷ ps) (suc i) (suc j) d rising ordered below = IsRising-at ps i j d rising.1 (omega arith) (omega arith)

-- two neighbours, as they were read from a rising list
pub comes_before_read : (rows : List Row) (i : ℕ) (p q : Row) → 1 ≤ i → i < length rows → p ≡ get_or rows (i - 1) p → q ≡ get_or rows i q → IsRising rows → ComesBefore p q
comes_before_read rows i p q positive below at_p at_q rising =
    let later : q ≡ get_or rows i p = at_q ∙ get_or_default rows i q p below in
    let apart : i - 1 < i = omega arith in
    subst (λ (x : Row). ComesBefore x q) (sym at_p)
    (subst (λ (y : Row). ComesBefore (get_or rows (i - 1) p) y) (sym later) (IsRising-at rows (i - 1) i p rising apart below))

-- what holds of the first rows, with one row more and of them all
pub All-step : (P : Row → Type 0) (rows : List Row) (i : ℕ) (x : Row) → i < length rows → x ≡ get_or rows i x → P x → All P (take i rows) → All P (take (i + 1) rows)
All-step P rows i x below read here before = All-more P rows i x below before (subst P read here)

pub All-whole : (P : Row → Type 0) (rows : List Row) (i : ℕ) → length rows ≤ i → All P (take i rows) → All P rows
All-whole P rows i past all = subst (λ (ps : List Row). All P ps) (take_all i rows past) all
