-- The walk over the rows of a delta finds the least record to which they give too much.
use Rattle.std.proofs.Common.{◌≡◌, ℕ, ◌+◌, ◌<◌, ◌≤◌, ◌⊎◌, inl, inr, Bool, true, false, cond, eqb, ltb, List, [], ◌∷◌, length, Option, Some, None, refl, sym, ap, ◌∙◌, arith}
use Rattle.std.specs.List.{AllByRecursion}
use Rattle.std.proofs.lemmas.Bool.{cases_Bool, cases_eq, cases_lt, eq-eqb, ne_eqb, lt-ltb, le-ltb, ltb-true, ltb-false, cond-true, cond-false}
use Rattle.merge_core.specs.declared.cell.Cell.{Cell}
use Rattle.merge_core.specs.declared.delta.Row.{Row}
use Rattle.merge_core.specs.Delta.{ComesBefore, IsRising}
use Rattle.merge_core.specs.Layout.{shape_of}
use Rattle.merge_core.specs.Rows.{start_counter}
use Rattle.merge_core.specs.Sums.{least_below}
use Rattle.admission_model.specs.View.{View}
use Rattle.admission_model.proofs.LeastLemmas.{IsLeast, least_below-some, least_below-found}
use Rattle.live_site.specs.Overfull.{given, lacking, gives_too_much, first_overfull}
use Rattle.live_site.specs.Walk.{rise, given_with, walk}
use Rattle.live_site.proofs.GivenLemmas.{given-first, given-none}

-- no number passes
none_least : (n : ℕ) (test : ℕ → Bool) → ((j : ℕ) → test j ≡ false) → None ≡ least_below n test
none_least n test none = at (least_below n test) refl
  where
    at : (o : Option ℕ) → least_below n test ≡ o → None ≡ least_below n test
    at None e = sym e
    at (Some k) e = let clash : true ≡ false = sym (least_below-some n test k e).passes ∙ none k in cc

-- a row has its place
pub record HasPlace (v : View) (p : Row) : Type 0 where
  pub record_there : p.r < length v.layout.records
  pub site_there : p.s < v.layout.sites

module _ (v : View) (low : (r s : ℕ) (cell : Cell) → start_counter (shape_of v.layout) r s cell ≤ v.counter r s cell) where
  -- rows of later records give nothing
  given_later : (rows : List Row) (r : ℕ) → IsRising rows → AllByRecursion (HasPlace v) rows → AllByRecursion (λ p. r < p.r) rows → given v rows r ≡ 0
  given_later [] r rising there later = given-none v low r
  given_later (p ∷ ps) r rising there later =
      omega (
        arith,
        given-first v low p ps r rising.0 there.0.site_there,
        cond-false {A = ℕ} (eqb r p.r) (rise v p) 0 (ne_eqb r p.r (λ same. absurd (omega (arith, later.0, same)))),
        given_later ps r rising.1 there.1 later.1,
      )

  -- what is given to a record, with what was given to record r before
  amount : ℕ → ℕ → List Row → ℕ → ℕ
  amount r n rows q = cond (eqb q r) n 0 + given v rows q

  over : ℕ → ℕ → List Row → ℕ → Bool
  over r n rows q = ltb (lacking v q) (amount r n rows q)

  -- rows that come behind a row are of its record or a later one
  record_behind : (p : Row) (ps : List Row) → AllByRecursion (ComesBefore p) ps → AllByRecursion (λ q. p.r ≤ q.r) ps
  record_behind p [] all = tt
  record_behind p (q ∷ qs) all = (at all.0, record_behind p qs all.1)
    where
      at : ComesBefore p q → p.r ≤ q.r
      at (inl before) = omega (arith, before)
      at (inr before) = omega (arith, before.0)

  later_all : (r k : ℕ) (ps : List Row) → r < k → AllByRecursion (λ q. k ≤ q.r) ps → AllByRecursion (λ q. r < q.r) ps
  later_all r k [] lower all = tt
  later_all r k (q ∷ qs) lower all = (omega (arith, all.0), later_all r k qs lower all.1)

  -- a first row, with what was given to record r before
  module _ (r n : ℕ) (p : Row) (ps : List Row) (few : n ≤ lacking v r) (rising : IsRising (p ∷ ps)) (there : AllByRecursion (HasPlace v) (p ∷ ps)) (from : r ≤ p.r) where
    m : ℕ
    m = given_with v r n p

    behind : AllByRecursion (λ q. p.r ≤ q.r) ps
    behind = record_behind p ps rising.0

    none_there : (q : ℕ) → q < p.r → given v ps q ≡ 0
    none_there q lower = given_later ps q rising.1 there.1 (later_all q p.r ps lower behind)

    -- no earlier record is given too much
    quiet : (q : ℕ) → q < p.r → over r n (p ∷ ps) q ≡ false
    unfolding over amount
    quiet q lower = at (cases_eq q r)
      where
        all : given v (p ∷ ps) q ≡ 0
        all =
            omega (
              arith,
              given-first v low p ps q rising.0 there.0.site_there,
              cond-false {A = ℕ} (eqb q p.r) (rise v p) 0 (ne_eqb q p.r (λ same. absurd (omega (arith, same, lower)))),
              none_there q lower,
            )

        at : (q ≡ r) ⊎ (q ≡ r → ⊥) → ltb (lacking v q) (cond (eqb q r) n 0 + given v (p ∷ ps) q) ≡ false
        at (inl e) =
            le-ltb (lacking v q) (cond (eqb q r) n 0 + given v (p ∷ ps) q)
            (omega (arith, all, cond-true {A = ℕ} (eqb q r) n 0 (eq-eqb q r e), few, ap (lacking v) e))
        at (inr ne) = le-ltb (lacking v q) (cond (eqb q r) n 0 + given v (p ∷ ps) q) (omega (arith, all, cond-false {A = ℕ} (eqb q r) n 0 (ne_eqb q r ne)))

    -- what is given to the row's record
    at_row : amount r n (p ∷ ps) p.r ≡ m + given v ps p.r
    unfolding amount m
    at_row = omega (arith, given-first v low p ps p.r rising.0 there.0.site_there, cond-true {A = ℕ} (eqb p.r p.r) (rise v p) 0 (eq-eqb p.r p.r refl))

    found_here : ltb (lacking v p.r) m ≡ true → Some p.r ≡ least_below (length v.layout.records) (over r n (p ∷ ps))
    unfolding over
    found_here much = sym (least_below-found (length v.layout.records) (over r n (p ∷ ps)) p.r is)
      where
        is : IsLeast (length v.layout.records) (over r n (p ∷ ps)) p.r
        is = record {
          below = there.0.record_there;
          passes = lt-ltb (lacking v p.r) (amount r n (p ∷ ps) p.r) (omega (arith, at_row, ltb-true (lacking v p.r) m much));
          least = quiet;
        }

    -- the walk goes on with the row's record
    goes_on : ltb (lacking v p.r) m ≡ false → (q : ℕ) → over p.r m ps q ≡ over r n (p ∷ ps) q
    unfolding over amount
    goes_on little q = at (cases_lt q p.r) (cases_eq q p.r)
      where
        same_amount : amount p.r m ps q ≡ amount r n (p ∷ ps) q → over p.r m ps q ≡ over r n (p ∷ ps) q
        same_amount e = ap (ltb (lacking v q)) e

        here : q ≡ p.r → amount p.r m ps q ≡ amount r n (p ∷ ps) q
        here e =
            ap (amount p.r m ps) e
            ∙ (omega (arith, cond-true {A = ℕ} (eqb p.r p.r) m 0 (eq-eqb p.r p.r refl), at_row) ∙ ap (amount r n (p ∷ ps)) (sym e))

        later : p.r ≤ q → (q ≡ p.r → ⊥) → amount p.r m ps q ≡ amount r n (p ∷ ps) q
        later above apart =
            omega (
              arith,
              cond-false {A = ℕ} (eqb q p.r) m 0 (ne_eqb q p.r apart),
              given-first v low p ps q rising.0 there.0.site_there,
              cond-false {A = ℕ} (eqb q p.r) (rise v p) 0 (ne_eqb q p.r apart),
              cond-false {A = ℕ} (eqb q r) n 0 (ne_eqb q r (λ same. apart (omega (arith, from, above, same)))),
            )

        earlier : q < p.r → over p.r m ps q ≡ over r n (p ∷ ps) q
        earlier lower =
            le-ltb (lacking v q) (amount p.r m ps q)
            (omega (arith, none_there q lower, cond-false {A = ℕ} (eqb q p.r) m 0 (ne_eqb q p.r (λ same. absurd (omega (arith, same, lower))))))
            ∙ sym (quiet q lower)

        at : (q < p.r) ⊎ (p.r ≤ q) → (q ≡ p.r) ⊎ (q ≡ p.r → ⊥) → over p.r m ps q ≡ over r n (p ∷ ps) q
        at (inl lower) e = earlier lower
        at (inr above) (inl e) = same_amount (here e)
        at (inr above) (inr apart) = same_amount (later above apart)

  walk_over : (rows : List Row) (r n : ℕ) → n ≤ lacking v r → IsRising rows → AllByRecursion (HasPlace v) rows → AllByRecursion (λ p. r ≤ p.r) rows
      → walk v r n rows ≡ least_below (length v.layout.records) (over r n rows)
  unfolding over amount m
  walk_over [] r n few rising there from = none_least (length v.layout.records) (over r n []) (λ q. at q (cases_eq q r))
    where
      at : (q : ℕ) → (q ≡ r) ⊎ (q ≡ r → ⊥) → ltb (lacking v q) (cond (eqb q r) n 0 + given v [] q) ≡ false
      at q (inl e) = le-ltb (lacking v q) (cond (eqb q r) n 0 + given v [] q) (omega (arith, given-none v low q, cond-true {A = ℕ} (eqb q r) n 0 (eq-eqb q r e), few, ap (lacking v) e))
      at q (inr ne) = le-ltb (lacking v q) (cond (eqb q r) n 0 + given v [] q) (omega (arith, given-none v low q, cond-false {A = ℕ} (eqb q r) n 0 (ne_eqb q r ne)))
  walk_over (p ∷ ps) r n few rising there from =
      at (cases_Bool (ltb (lacking v p.r) (given_with v r n p)))
      (λ little. walk_over ps p.r (given_with v r n p) (ltb-false (lacking v p.r) (given_with v r n p) little) rising.1 there.1 (record_behind p ps rising.0))
    where
      at : (ltb (lacking v p.r) (given_with v r n p) ≡ true) ⊎ (ltb (lacking v p.r) (given_with v r n p) ≡ false)
          → (ltb (lacking v p.r) (given_with v r n p) ≡ false → walk v p.r (given_with v r n p) ps ≡ least_below (length v.layout.records) (over p.r (given_with v r n p) ps))
          → walk v r n (p ∷ ps) ≡ least_below (length v.layout.records) (over r n (p ∷ ps))
      at (inl much) rest =
          cond-true (ltb (lacking v p.r) (given_with v r n p)) (Some p.r) (walk v p.r (given_with v r n p) ps) much
          ∙ found_here r n p ps few rising there from.0 much
      at (inr little) rest =
          cond-false (ltb (lacking v p.r) (given_with v r n p)) (Some p.r) (walk v p.r (given_with v r n p) ps) little
          ∙ (rest little ∙ ap (least_below (length v.layout.records)) (λ i q. goes_on r n p ps few rising there from.0 little q i))

  from_first : (rows : List Row) → AllByRecursion (λ p. 0 ≤ p.r) rows
  from_first [] = tt
  from_first (p ∷ ps) = (omega arith, from_first ps)

  -- from the first record on
  pub walk_all : (rows : List Row) → IsRising rows → AllByRecursion (HasPlace v) rows → walk v 0 0 rows ≡ first_overfull v rows
  unfolding over amount
  walk_all rows rising there =
      walk_over rows 0 0 (omega arith) rising there (from_first rows)
      ∙ ap (least_below (length v.layout.records)) (λ i q. same q i)
    where
      same : (q : ℕ) → over 0 0 rows q ≡ gives_too_much v rows q
      same q = ap (ltb (lacking v q)) (at (cases_eq q 0))
        where
          at : (q ≡ 0) ⊎ (q ≡ 0 → ⊥) → cond (eqb q 0) 0 0 + given v rows q ≡ given v rows q
          at (inl e) = omega (arith, cond-true {A = ℕ} (eqb q 0) 0 0 (eq-eqb q 0 e))
          at (inr ne) = omega (arith, cond-false {A = ℕ} (eqb q 0) 0 0 (ne_eqb q 0 ne))
