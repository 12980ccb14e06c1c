-- What a list of rows shows, row by row.
use Rattle.std.proofs.Common.{◌≡◌, ℕ, zero, suc, ◌+◌, ◌*◌, ◌<◌, ◌≤◌, inl, inr, Bool, true, false, ◌&&◌, ◌==◌, cond, List, [], ◌∷◌, ◌++◌, length, get_or, take, refl, arith}
use Rattle.std.specs.List.{AllByRecursion}
use Rattle.std.proofs.lemmas.Bool.Decides.{nat_tests}
use Rattle.std.proofs.lemmas.List.Elements.{All-get_or, All-from_recursion}
use Rattle.merge_core.proofs.RowLemmas.{IsRising-at}
use Rattle.merge_core.specs.declared.cell.Cell.{Cell}
use Rattle.merge_core.specs.declared.delta.Row.{Row}
use Rattle.merge_core.specs.Layout.{Shape}
use Rattle.merge_core.specs.Delta.{ComesBefore, IsRising, IsRow}
use Rattle.merge_core.specs.Rows.{counter_in, counters_of, start_counter}
use Rattle.merge_core.specs.Naming.{shown_by}

-- the test of `shown_by`: row p stands at record r and site s
abbrev pub stands_at : Row → ℕ → ℕ → Bool
stands_at p r s = (p.r == r) && (p.s == s)

-- two rows that stand at one place
pub both_stand : (q p : Row) (r s : ℕ) → stands_at q p.r p.s ≡ false → stands_at q r s ≡ true → stands_at p r s ≡ true → ⊥
both_stand q p r s apart at_q at_p = grind (arith, nat_tests)

choose_later : {X : Type 0} (a b : Bool) (x y z rest : X) → (a ≡ true → b ≡ true → ⊥) → rest ≡ cond b y z → cond a x rest ≡ cond b y (cond a x z)
choose_later true true x y z rest apart e = absurd (apart refl refl)
choose_later true false x y z rest apart e = refl
choose_later false b x y z rest apart e = e

-- one row more at the end shows its own place, where no earlier row stands there
pub shown_by-push : (shape : Shape) (ps : List Row) (p : Row) (r s : ℕ) (cell : Cell) → AllByRecursion (λ q. stands_at q p.r p.s ≡ false) ps → shown_by shape (ps ++ p ∷ []) r s cell ≡ cond (stands_at p r s) (counter_in (counters_of p) cell) (shown_by shape ps r s cell)
shown_by-push shape [] p r s cell apart = refl
shown_by-push shape (q ∷ qs) p r s cell apart =
    choose_later (stands_at q r s) (stands_at p r s) _ _ _ _ (both_stand q p r s apart.0) (shown_by-push shape qs p r s cell apart.1)

-- rows none of which stands at a place show its start
pub shown_by-absent : (shape : Shape) (ps : List Row) (r s : ℕ) (cell : Cell) → AllByRecursion (λ q. stands_at q r s ≡ false) ps → shown_by shape ps r s cell ≡ start_counter shape r s cell
shown_by-absent shape [] r s cell absent = refl
shown_by-absent shape (q ∷ qs) r s cell absent = rw absent.0 (shown_by-absent shape qs r s cell absent.1)

-- a row before another stands elsewhere
pub stands_apart : (q p : Row) → ComesBefore q p → stands_at q p.r p.s ≡ false
stands_apart q p (inl before) = grind (arith, nat_tests)
stands_apart q p (inr before) = grind (arith, nat_tests)

-- the rows of a rising list before a place all stand elsewhere
pub all_apart : (rows : List Row) (i : ℕ) (p : Row) → IsRising rows → i < length rows → p ≡ get_or rows i p → AllByRecursion (λ q. stands_at q p.r p.s ≡ false) (take i rows)
all_apart [] i p rising below at_p = absurd (omega arith)
all_apart (q ∷ qs) zero p rising below at_p = tt
all_apart (q ∷ qs) (suc i) p rising below at_p =
    (stands_apart q p (rw at_p (IsRising-at (q ∷ qs) 0 (suc i) p rising (omega arith) below)), all_apart qs i p rising.1 (omega arith) at_p)

-- the rank of a row: its place among all records and sites
abbrev pub rank_of : Row → ℕ
rank_of p = 16 * p.r + p.s

-- a rising list is no longer than the ranks that it passes
pub rank-bounds : (rows : List Row) (m i : ℕ) (d : Row) → IsRising rows → AllByRecursion IsRow rows → AllByRecursion (λ q. m ≤ rank_of q) rows → i < length rows → m + i ≤ rank_of (get_or rows i d)
rank-bounds [] m i d rising are high below = absurd (omega arith)
rank-bounds (p ∷ ps) m zero d rising are high below = omega (arith, high.0)
rank-bounds (p ∷ ps) m (suc i) d rising are high below =
    let rest = rank-bounds ps (m + 1) i d rising.1 are.1 (raised ps rising.0 are.1) (omega arith) in omega arith
  where
    raised : (qs : List Row) → AllByRecursion (ComesBefore p) qs → AllByRecursion IsRow qs → AllByRecursion (λ q. m + 1 ≤ rank_of q) qs
    raised [] before these = tt
    raised (q ∷ qs) before these = (higher before.0, raised qs before.1 these.1)
      where
        higher : ComesBefore p q → m + 1 ≤ rank_of q
        higher (inl less) = omega (arith, high.0, are.0.site_number)
        higher (inr same) = omega (arith, high.0, same.0, same.1)

-- at most 4,096 rows rise
pub few_rows : (rows : List Row) (i : ℕ) (d : Row) → IsRising rows → AllByRecursion IsRow rows → i < length rows → i < 4096
few_rows rows i d rising are below =
    let high = rank-bounds rows 0 i d rising are (all_high rows) below in
    let it = All-get_or IsRow rows i d below (All-from_recursion IsRow rows are) in
    omega (arith, it.record_number, it.site_number)
  where
    all_high : (qs : List Row) → AllByRecursion (λ q. 0 ≤ rank_of q) qs
    all_high [] = tt
    all_high (q ∷ qs) = (omega arith, all_high qs)
