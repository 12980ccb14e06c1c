-- What the tests of a row say, part by part, and the first row that fails one.
use Rattle.std.proofs.Common.{◌≡◌, ◌≢◌, ℕ, suc, ◌+◌, ◌-◌, ◌<◌, ◌≤◌, ◌⊎◌, inl, inr, Bool, true, false, not, ◌&&◌, cond, eqb, ltb, leb, All, List, [], ◌∷◌, length, get_or, Option, Some, None, refl, sym, ap, subst, ◌∙◌, arith}
use Rattle.std.specs.Prelude.{option_map}
use Rattle.std.specs.List.{AllByRecursion, position, position_from}
use Rattle.std.proofs.lemmas.Iterator.Adapters.{position_from-zero}
use Rattle.std.proofs.lemmas.List.{get_or_past}
use Rattle.std.proofs.lemmas.List.Elements.{All-from_recursion}
use Rattle.std.proofs.lemmas.Bool.{cases_eq, cases_lt, cases_Bool, eq-eqb, ne_eqb, eqb-true, ltb-true, ltb-false, lt-ltb, le-ltb, leb-true, le-leb, and_parts, and_from, cond-true, cond-false}
use Rattle.grow_counters.specs.Counts.{counter_limit}
use Rattle.merge_core.specs.declared.delta.Row.{Row}
use Rattle.merge_core.specs.Layout.{Shape}
use Rattle.merge_core.specs.Rows.{grant}
use Rattle.merge_core.specs.Sums.{one_if}
use Rattle.merge_core.specs.Tests.{is_placed, is_valid, overfull, first_failing}
use Rattle.merge_core.specs.Check.{IsChecked}
use Rattle.merge_core.proofs.SumLemmas.{total_member, total_zero}

-- the parts of `is_placed`
pub record IsPlaced (shape : Shape) (p : Row) : Type 0 where
  pub record_there : p.r < length shape.records
  pub own_there : p.s < length p.out
  pub few_sites : length p.out ≤ shape.sites

-- the parts of `is_valid`
pub record IsValid (shape : Shape) (p : Row) : Type 0 where
  pub kept_grant : grant shape p.r p.s ≤ get_or p.out p.s 0
  pub left_after_taken : get_or p.out p.s 0 - grant shape p.r p.s ≤ p.taken
  pub few_taken : p.taken ≤ counter_limit
  pub few_moved : (j : ℕ) → j ≢ p.s → get_or p.out j 0 ≤ counter_limit
  pub finished_after_announced : p.fin ≤ p.ann
  pub few_announced : p.ann ≤ counter_limit

pub placed_parts : (shape : Shape) (p : Row) → is_placed shape p ≡ true → IsPlaced shape p
placed_parts shape p e =
    let p0 = and_parts (ltb p.r (length shape.records)) (ltb p.s (length p.out) && leb (length p.out) shape.sites) e in
    let p1 = and_parts (ltb p.s (length p.out)) (leb (length p.out) shape.sites) p0.1 in
    record {
      record_there = ltb-true p.r (length shape.records) p0.0;
      own_there = ltb-true p.s (length p.out) p1.0;
      few_sites = leb-true (length p.out) shape.sites p1.1;
    }

pub placed_from : (shape : Shape) (p : Row) → IsPlaced shape p → is_placed shape p ≡ true
placed_from shape p is =
    and_from (ltb p.r (length shape.records)) (ltb p.s (length p.out) && leb (length p.out) shape.sites) (lt-ltb p.r (length shape.records) is.record_there)
    (and_from (ltb p.s (length p.out)) (leb (length p.out) shape.sites) (lt-ltb p.s (length p.out) is.own_there) (le-leb (length p.out) shape.sites is.few_sites))

one_if-zero : (b : Bool) → one_if b ≡ 0 → b ≡ false
one_if-zero true e = cc
one_if-zero false e = refl

-- a counter that a site moved elsewhere is past its limit
past : Row → ℕ → Bool
past p j = not (eqb j p.s) && ltb counter_limit (get_or p.out j 0)

within_limit : (b c : Bool) → (not b && c) ≡ false → b ≡ false → c ≡ false
within_limit true c e d = cc
within_limit false c e d = e

within_own : (b c : Bool) → b ≡ true → (not b && c) ≡ false
within_own true c e = refl
within_own false c e = cc

within_other : (b c : Bool) → c ≡ false → (not b && c) ≡ false
within_other true c e = refl
within_other false c e = e

pub few_moved-from : (p : Row) → overfull p ≡ 0 → (j : ℕ) → j ≢ p.s → get_or p.out j 0 ≤ counter_limit
unfolding past
few_moved-from p none j apart = at (cases_lt j (length p.out))
  where
    at : (j < length p.out) ⊎ (length p.out ≤ j) → get_or p.out j 0 ≤ counter_limit
    at (inl below) =
        let here : one_if (past p j) ≡ 0 = omega (arith, total_member (length p.out) j (λ k. one_if (past p k)) below) in
        ltb-false counter_limit (get_or p.out j 0)
        (within_limit (eqb j p.s) (ltb counter_limit (get_or p.out j 0)) (one_if-zero (past p j) here) (ne_eqb j p.s apart))
    at (inr beyond) = omega (arith, get_or_past p.out j 0 beyond)

pub overfull-none : (p : Row) → ((j : ℕ) → j ≢ p.s → get_or p.out j 0 ≤ counter_limit) → overfull p ≡ 0
unfolding past
overfull-none p few = total_zero (length p.out) (λ k. one_if (past p k)) (λ j below. ap one_if (at j (cases_eq j p.s)))
  where
    at : (j : ℕ) → (j ≡ p.s) ⊎ (j ≡ p.s → ⊥) → past p j ≡ false
    at j (inl e) = within_own (eqb j p.s) (ltb counter_limit (get_or p.out j 0)) (eq-eqb j p.s e)
    at j (inr ne) =
        within_other (eqb j p.s) (ltb counter_limit (get_or p.out j 0)) (le-ltb counter_limit (get_or p.out j 0) (few j ne))

pub valid_parts : (shape : Shape) (p : Row) → is_valid shape p ≡ true → IsValid shape p
valid_parts shape p e =
    let granted = grant shape p.r p.s in
    let own = get_or p.out p.s 0 in
    let v0 = and_parts (leb granted own) (leb (own - granted) p.taken && (leb p.taken counter_limit && (eqb (overfull p) 0 && (leb p.fin p.ann && leb p.ann counter_limit)))) e in
    let v1 = and_parts (leb (own - granted) p.taken) (leb p.taken counter_limit && (eqb (overfull p) 0 && (leb p.fin p.ann && leb p.ann counter_limit))) v0.1 in
    let v2 = and_parts (leb p.taken counter_limit) (eqb (overfull p) 0 && (leb p.fin p.ann && leb p.ann counter_limit)) v1.1 in
    let v3 = and_parts (eqb (overfull p) 0) (leb p.fin p.ann && leb p.ann counter_limit) v2.1 in
    let v4 = and_parts (leb p.fin p.ann) (leb p.ann counter_limit) v3.1 in
    record {
      kept_grant = leb-true granted own v0.0;
      left_after_taken = leb-true (own - granted) p.taken v1.0;
      few_taken = leb-true p.taken counter_limit v2.0;
      few_moved = few_moved-from p (eqb-true (overfull p) 0 v3.0);
      finished_after_announced = leb-true p.fin p.ann v4.0;
      few_announced = leb-true p.ann counter_limit v4.1;
    }

pub valid_from : (shape : Shape) (p : Row) → IsValid shape p → is_valid shape p ≡ true
valid_from shape p is =
    let granted = grant shape p.r p.s in
    let own = get_or p.out p.s 0 in
    and_from (leb granted own) (leb (own - granted) p.taken && (leb p.taken counter_limit && (eqb (overfull p) 0 && (leb p.fin p.ann && leb p.ann counter_limit)))) (le-leb granted own is.kept_grant)
    (and_from (leb (own - granted) p.taken) (leb p.taken counter_limit && (eqb (overfull p) 0 && (leb p.fin p.ann && leb p.ann counter_limit))) (le-leb (own - granted) p.taken is.left_after_taken)
    (and_from (leb p.taken counter_limit) (eqb (overfull p) 0 && (leb p.fin p.ann && leb p.ann counter_limit)) (le-leb p.taken counter_limit is.few_taken)
    (and_from (eqb (overfull p) 0) (leb p.fin p.ann && leb p.ann counter_limit) (eq-eqb (overfull p) 0 (overfull-none p is.few_moved))
    (and_from (leb p.fin p.ann) (leb p.ann counter_limit) (le-leb p.fin p.ann is.finished_after_announced) (le-leb p.ann counter_limit is.few_announced)))))

-- ---- the first row that fails a test

-- counted from i on
later : ℕ → Option ℕ → Option ℕ
later i None = None
later i (Some k) = Some (i + k)

later-suc : (i : ℕ) (o : Option ℕ) → later (i + 1) o ≡ later i (option_map suc o)
unfolding later
later-suc i None = refl
later-suc i (Some k) = ap {B = Option ℕ} Some (omega arith)

later-zero : (o : Option ℕ) → later 0 o ≡ o
unfolding later
later-zero None = refl
later-zero (Some k) = ap {B = Option ℕ} Some (omega arith)

failing_from : (test : Row → Bool) (i : ℕ) (rows : List Row) → position_from (λ p. not (test p)) i rows ≡ later i (first_failing test rows)
unfolding later
failing_from test i [] = refl
failing_from test i (p ∷ ps) = at (test p) (failing_from test (i + 1) ps)
  where
    at : (b : Bool) → position_from (λ q. not (test q)) (i + 1) ps ≡ later (i + 1) (first_failing test ps) → cond (not b) (Some i) (position_from (λ q. not (test q)) (i + 1) ps) ≡ later i (cond b (option_map suc (first_failing test ps)) (Some 0))
    at true rest = rest ∙ later-suc i (first_failing test ps)
    at false rest = ap {B = Option ℕ} Some (omega arith)

-- the position that the rows' iterator finds
pub position-failing : (test : Row → Bool) (rows : List Row) → position (λ p. not (test p)) rows ≡ first_failing test rows
position-failing test rows =
    position_from-zero (λ p. not (test p)) rows ∙ (failing_from test 0 rows ∙ later-zero (first_failing test rows))

pub failing_found : (test : Row → Bool) (read rows : List Row) (found o : Option ℕ) → found ≡ position (λ p. not (test p)) read → read ≡ rows → found ≡ o → first_failing test rows ≡ o
failing_found test read rows found o searched same is =
    ap (first_failing test) (sym same) ∙ (sym (position-failing test read) ∙ (sym searched ∙ is))

map_none : (o : Option ℕ) → option_map suc o ≡ None → o ≡ None
map_none None e = refl
map_none (Some x) e = cc

-- where no row fails, each passes, and the reverse
pub all_pass : (test : Row → Bool) (rows : List Row) → first_failing test rows ≡ None → AllByRecursion (λ p. test p ≡ true) rows
all_pass test [] none = tt
all_pass test (p ∷ ps) none = at (cases_Bool (test p)) (all_pass test ps)
  where
    at : (test p ≡ true) ⊎ (test p ≡ false) → (first_failing test ps ≡ None → AllByRecursion (λ q. test q ≡ true) ps) → AllByRecursion (λ q. test q ≡ true) (p ∷ ps)
    at (inl e) rest = (e, rest (map_none (first_failing test ps) (sym (cond-true (test p) (option_map suc (first_failing test ps)) (Some 0) e) ∙ none)))
    at (inr e) rest =
        let some : ◌≡◌ {A = Option ℕ} (Some 0) None = sym (cond-false (test p) (option_map suc (first_failing test ps)) (Some 0) e) ∙ none in cc

pub none_failing : (test : Row → Bool) (rows : List Row) → AllByRecursion (λ p. test p ≡ true) rows → first_failing test rows ≡ None
none_failing test [] all = refl
none_failing test (p ∷ ps) all =
    cond-true (test p) (option_map suc (first_failing test ps)) (Some 0) all.0 ∙ ap (option_map suc) (none_failing test ps all.1)

-- each row of a checked delta has its place, and can be its site's
each_placed : (shape : Shape) (rows : List Row) → AllByRecursion (λ p. is_placed shape p ≡ true) rows → AllByRecursion (IsPlaced shape) rows
each_placed shape [] all = tt
each_placed shape (p ∷ ps) all = (placed_parts shape p all.0, each_placed shape ps all.1)

each_valid : (shape : Shape) (rows : List Row) → AllByRecursion (λ p. is_valid shape p ≡ true) rows → AllByRecursion (IsValid shape) rows
each_valid shape [] all = tt
each_valid shape (p ∷ ps) all = (valid_parts shape p all.0, each_valid shape ps all.1)

pub checked_placed : (shape : Shape) (rows : List Row) → IsChecked shape rows → All (IsPlaced shape) rows
checked_placed shape rows is = All-from_recursion (IsPlaced shape) rows (each_placed shape rows (all_pass (is_placed shape) rows is.placed))

pub checked_valid : (shape : Shape) (rows : List Row) → IsChecked shape rows → All (IsValid shape) rows
checked_valid shape rows is = All-from_recursion (IsValid shape) rows (each_valid shape rows (all_pass (is_valid shape) rows is.valid))

-- a row that was read from checked rows passes
pub passes_at : (test : Row → Bool) (rows read : List Row) (i : ℕ) (p : Row) → first_failing test rows ≡ None → read ≡ rows → i < length read → p ≡ get_or read i p → test p ≡ true
passes_at test rows read i p none same below at_p =
    let all : All (λ q. test q ≡ true) read = subst (λ (qs : List Row). All (λ q. test q ≡ true) qs) (sym same) (All-from_recursion (λ q. test q ≡ true) rows (all_pass test rows none)) in
    subst (λ (q : Row). test q ≡ true) (sym at_p) (all i p below)
