-- What the rows of a delta give to a site, row by row.
use Rattle.std.proofs.Common.{◌≡◌, ℕ, ◌+◌, ◌-◌, ◌<◌, ◌≤◌, ◌⊎◌, inl, inr, true, false, cond, eqb, List, [], ◌∷◌, sym, ap, ◌∙◌, arith}
use Rattle.std.specs.List.{AllByRecursion}
use Rattle.std.proofs.lemmas.Bool.{cases_eq, eq-eqb, ne_eqb, and_from, cond-true, cond-false}
use Rattle.std.proofs.lemmas.Bool.Decides.{nat_tests}
use Rattle.merge_core.specs.declared.cell.Cell.{Cell}
use Rattle.merge_core.specs.declared.cell.Cell.TheVariants.{Out}
use Rattle.merge_core.specs.declared.delta.Row.{Row}
use Rattle.merge_core.specs.Delta.{ComesBefore}
use Rattle.merge_core.specs.Layout.{Shape, shape_of}
use Rattle.merge_core.specs.Naming.{shown_by}
use Rattle.merge_core.specs.Rows.{start_counter, counter_in, counters_of}
use Rattle.merge_core.specs.Sums.{total}
use Rattle.merge_core.proofs.ShownLemmas.{stands_at}
use Rattle.merge_core.proofs.SumLemmas.{total_same, total_add, total_zero, total_only}
use Rattle.admission_core.proofs.JoiningLemmas.{all_behind}
use Rattle.admission_model.specs.View.{View}
use Rattle.live_site.specs.Overfull.{given}
use Rattle.live_site.specs.Walk.{rise}

-- a site's view, in which no counter is below its start
module _ (v : View) (low : (r s : ℕ) (cell : Cell) → start_counter (shape_of v.layout) r s cell ≤ v.counter r s cell) where
  abbrev shape : Shape
  shape = shape_of v.layout

  -- what the rows give of site j's row
  given_at : List Row → ℕ → ℕ → ℕ
  given_at rows r j = shown_by shape rows r j (Out v.site) - v.counter r j (Out v.site)

  given_at-absent : (rows : List Row) (r s : ℕ) → AllByRecursion (λ q. stands_at q r s ≡ false) rows → given_at rows r s ≡ 0
  unfolding given_at
  given_at-absent [] r s absent = omega (arith, low r s (Out v.site))
  given_at-absent (p ∷ ps) r s absent =
      ap (λ (n : ℕ). n - v.counter r s (Out v.site)) (cond-false (stands_at p r s) (counter_in (counters_of p) (Out v.site)) (shown_by shape ps r s (Out v.site)) absent.0)
      ∙ given_at-absent ps r s absent.1

  given_at-first : (p : Row) (ps : List Row) (r s : ℕ) → p.r ≡ r → p.s ≡ s → given_at (p ∷ ps) r s ≡ rise v p
  unfolding given_at
  given_at-first p ps r s same_record same_site =
      ap (λ (n : ℕ). n - v.counter r s (Out v.site)) (cond-true (stands_at p r s) (counter_in (counters_of p) (Out v.site)) (shown_by shape ps r s (Out v.site)) here)
      ∙ ap (λ (n : ℕ). counter_in (counters_of p) (Out v.site) - n) (ap (λ (x : ℕ). v.counter x s (Out v.site)) (sym same_record) ∙ ap (λ (x : ℕ). v.counter p.r x (Out v.site)) (sym same_site))
    where
      here : stands_at p r s ≡ true
      here = and_from (eqb p.r r) (eqb p.s s) (eq-eqb p.r r same_record) (eq-eqb p.s s same_site)

  given_at-later : (p : Row) (ps : List Row) (r s : ℕ) → stands_at p r s ≡ false → given_at (p ∷ ps) r s ≡ given_at ps r s
  unfolding given_at
  given_at-later p ps r s elsewhere =
      ap (λ (n : ℕ). n - v.counter r s (Out v.site)) (cond-false (stands_at p r s) (counter_in (counters_of p) (Out v.site)) (shown_by shape ps r s (Out v.site)) elsewhere)

  -- a first row gives to its record what it raises
  given_more : (p : Row) (ps : List Row) (r : ℕ) → AllByRecursion (ComesBefore p) ps → p.s < v.layout.sites
      → total v.layout.sites (given_at (p ∷ ps) r) ≡ cond (eqb r p.r) (rise v p) 0 + total v.layout.sites (given_at ps r)
  given_more p ps r before inside = at (cases_eq r p.r)
    where
      n : ℕ
      n = rise v p

      site : r ≡ p.r → (s : ℕ) → (s ≡ p.s) ⊎ (s ≡ p.s → ⊥) → given_at (p ∷ ps) r s ≡ cond (eqb s p.s) n 0 + given_at ps r s
      site e s (inl same) =
          let none : given_at ps r s ≡ 0 = ap (λ (x : ℕ). given_at ps x s) e ∙ (ap (given_at ps p.r) same ∙ given_at-absent ps p.r p.s (all_behind p ps before)) in
          omega (arith, given_at-first p ps r s (sym e) (sym same), cond-true {A = ℕ} (eqb s p.s) n 0 (eq-eqb s p.s same), none)
      site e s (inr apart) =
          omega (
            arith,
            given_at-later p ps r s (elsewhere (ne_eqb p.s s (λ same. apart (sym same)))),
            cond-false {A = ℕ} (eqb s p.s) n 0 (ne_eqb s p.s apart),
          )
        where
          elsewhere : eqb p.s s ≡ false → stands_at p r s ≡ false
          elsewhere differs = grind (arith, nat_tests)

      at : (r ≡ p.r) ⊎ (r ≡ p.r → ⊥) → total v.layout.sites (given_at (p ∷ ps) r) ≡ cond (eqb r p.r) n 0 + total v.layout.sites (given_at ps r)
      at (inl e) =
          total_same v.layout.sites (given_at (p ∷ ps) r) (λ s. cond (eqb s p.s) n 0 + given_at ps r s) (λ s below. site e s (cases_eq s p.s))
          ∙ omega (arith, total_add v.layout.sites (λ s. cond (eqb s p.s) n 0) (given_at ps r), total_only v.layout.sites p.s n inside, cond-true {A = ℕ} (eqb r p.r) n 0 (eq-eqb r p.r e))
      at (inr apart) =
          omega (
            arith,
            total_same v.layout.sites (given_at (p ∷ ps) r) (given_at ps r) (λ s below. given_at-later p ps r s (elsewhere s (ne_eqb p.r r (λ same. apart (sym same))))),
            cond-false {A = ℕ} (eqb r p.r) n 0 (ne_eqb r p.r apart),
          )
        where
          elsewhere : (s : ℕ) → eqb p.r r ≡ false → stands_at p r s ≡ false
          elsewhere s differs = grind (arith, nat_tests)

  -- the same of what the rows give
  pub given-first : (p : Row) (ps : List Row) (r : ℕ) → AllByRecursion (ComesBefore p) ps → p.s < v.layout.sites
      → given v (p ∷ ps) r ≡ cond (eqb r p.r) (rise v p) 0 + given v ps r
  unfolding given_at
  given-first p ps r before inside = given_more p ps r before inside

  pub given-none : (r : ℕ) → given v [] r ≡ 0
  unfolding given_at
  given-none r = total_zero v.layout.sites (given_at [] r) (λ j below. given_at-absent [] r j tt)
