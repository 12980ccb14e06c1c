-- Sums that differ, the seats of one site, and who is inside.
use Rattle.std.proofs.Common.{◌≡◌, ◌≢◌, ℕ, zero, suc, ◌+◌, ◌<◌, ◌≤◌, ◌⊎◌, inl, inr, cond, eqb, length, Option, Some, None, refl, sym, ap, subst, ◌∙◌, arith}
use Rattle.std.proofs.lemmas.Bool.{cases_eq, cases_lt, eq-eqb, ne_eqb, cond-true, cond-false}
use Rattle.merge_core.specs.declared.cell.Cell.TheVariants.{Out}
use Rattle.merge_core.specs.Layout.{LayoutState, shape_of}
use Rattle.merge_core.specs.Rows.{grant}
use Rattle.merge_core.specs.Sums.{total, total_others}
use Rattle.merge_core.proofs.SumLemmas.{total_le}
use Rattle.session_list.specs.declared.session.Phase.{Phase}
use Rattle.session_list.specs.declared.session.Phase.TheVariants.{Reader, Waiting, Writer}
use Rattle.admission_model.specs.Account.{Account, seats_in, own, inside, phase_of, sessions_of, session_total, arrivals, weight, on_phase}
use Rattle.admission_model.specs.Knowledge.{known}
use Rattle.admission_model.specs.View.{view_of, rights_of}
use Rattle.admission_model.specs.Sound.{IsSound}
use Rattle.admission_model.proofs.SumLemmas.{total_others_more}
use Rattle.admission_model.proofs.SessionLemmas.{adds, sessions-keys, keys_member}
use Rattle.admission_model.proofs.CounterLemmas.{known_other}
use Rattle.admission_model.proofs.RowLemmas.{start_elsewhere}
use Rattle.admission_model.proofs.HeardLemmas.{site_sum_own}
use Rattle.multi_site_world.specs.Laws.{IsInside}
use Rattle.multi_site_world.proofs.FamilyLemmas.{same_grant}

-- where one sum is above another, some summand is
pub total_rise : (n : ℕ) (f g : ℕ → ℕ) → total n f < total n g → (x : ℕ) × ((x < n) × (f x < g x))
total_rise zero f g less = absurd (omega arith)
total_rise (suc n) f g less = at (cases_lt (f n) (g n)) (total_rise n f g)
  where
    at : (f n < g n) ⊎ (g n ≤ f n) → (total n f < total n g → (x : ℕ) × ((x < n) × (f x < g x))) → (x : ℕ) × ((x < suc n) × (f x < g x))
    at (inl here) earlier = (n, (omega arith, here))
    at (inr not_here) earlier = let it = earlier (omega arith) in (it.0, (omega (arith, it.1.0), it.1.1))

pub others_rise : (n i : ℕ) (f g : ℕ → ℕ) → total_others n i f < total_others n i g → (x : ℕ) × ((x < n) × ((x ≢ i) × (f x < g x)))
others_rise n i f g less =
    let it = total_rise n (λ j. cond (eqb j i) 0 (f j)) (λ j. cond (eqb j i) 0 (g j)) less in
    at it.0 it.1.0 it.1.1 (cases_eq it.0 i)
  where
    at : (x : ℕ) → x < n → cond (eqb x i) 0 (f x) < cond (eqb x i) 0 (g x) → (x ≡ i) ⊎ (x ≡ i → ⊥) → (x : ℕ) × ((x < n) × ((x ≢ i) × (f x < g x)))
    at x below more (inl e) = absurd (omega (arith, more, cond-true {A = ℕ} (eqb x i) 0 (g x) (eq-eqb x i e)))
    at x below more (inr ne) =
        (x, (below, (ne, omega (arith, more, cond-false {A = ℕ} (eqb x i) 0 (f x) (ne_eqb x i ne), cond-false {A = ℕ} (eqb x i) 0 (g x) (ne_eqb x i ne)))))

-- where no summand falls and one rises, the sum does
pub total_more : (n y : ℕ) (f g : ℕ → ℕ) → ((x : ℕ) → f x ≤ g x) → y < n → f y < g y → total n f < total n g
total_more zero y f g least below more = absurd (omega arith)
total_more (suc n) y f g least below more = at (cases_eq y n) (λ lower. total_more n y f g least lower more)
  where
    at : (y ≡ n) ⊎ (y ≡ n → ⊥) → (y < n → total n f < total n g) → total (suc n) f < total (suc n) g
    at (inl e) earlier =
        let here : f n < g n = subst (λ (x : ℕ). f x < g x) e more in
        omega (arith, here, total_le n f g (λ x lower. least x))
    at (inr ne) earlier = omega (arith, earlier (omega arith), least n)

pub others_more : (n i y : ℕ) (f g : ℕ → ℕ) → ((x : ℕ) → f x ≤ g x) → y < n → y ≢ i → f y < g y → total_others n i f < total_others n i g
others_more n i y f g least below apart more =
    total_more n y (λ j. cond (eqb j i) 0 (f j)) (λ j. cond (eqb j i) 0 (g j)) (λ x. at x (cases_eq x i)) below
    (omega (arith, more, cond-false {A = ℕ} (eqb y i) 0 (f y) (ne_eqb y i apart), cond-false {A = ℕ} (eqb y i) 0 (g y) (ne_eqb y i apart)))
  where
    at : (x : ℕ) → (x ≡ i) ⊎ (x ≡ i → ⊥) → cond (eqb x i) 0 (f x) ≤ cond (eqb x i) 0 (g x)
    at x (inl e) = omega (arith, cond-true {A = ℕ} (eqb x i) 0 (f x) (eq-eqb x i e))
    at x (inr ne) = omega (arith, least x, cond-false {A = ℕ} (eqb x i) 0 (f x) (ne_eqb x i ne), cond-false {A = ℕ} (eqb x i) 0 (g x) (ne_eqb x i ne))

pub others_least : (n i : ℕ) (f g : ℕ → ℕ) → ((x : ℕ) → f x ≤ g x) → total_others n i f ≤ total_others n i g
others_least n i f g least =
    total_le n (λ j. cond (eqb j i) 0 (f j)) (λ j. cond (eqb j i) 0 (g j)) (λ x below. at x (cases_eq x i))
  where
    at : (x : ℕ) → (x ≡ i) ⊎ (x ≡ i → ⊥) → cond (eqb x i) 0 (f x) ≤ cond (eqb x i) 0 (g x)
    at x (inl e) = omega (arith, cond-true {A = ℕ} (eqb x i) 0 (f x) (eq-eqb x i e))
    at x (inr ne) = omega (arith, least x, cond-false {A = ℕ} (eqb x i) 0 (f x) (ne_eqb x i ne), cond-false {A = ℕ} (eqb x i) 0 (g x) (ne_eqb x i ne))

-- the same where a summand that is left out may fall
pub others_least_but : (n i : ℕ) (f g : ℕ → ℕ) → ((x : ℕ) → x ≢ i → f x ≤ g x) → total_others n i f ≤ total_others n i g
others_least_but n i f g least =
    total_le n (λ j. cond (eqb j i) 0 (f j)) (λ j. cond (eqb j i) 0 (g j)) (λ x below. at x (cases_eq x i))
  where
    at : (x : ℕ) → (x ≡ i) ⊎ (x ≡ i → ⊥) → cond (eqb x i) 0 (f x) ≤ cond (eqb x i) 0 (g x)
    at x (inl e) = omega (arith, cond-true {A = ℕ} (eqb x i) 0 (f x) (eq-eqb x i e))
    at x (inr ne) = omega (arith, least x ne, cond-false {A = ℕ} (eqb x i) 0 (f x) (ne_eqb x i ne), cond-false {A = ℕ} (eqb x i) 0 (g x) (ne_eqb x i ne))

pub others_more_but : (n i y : ℕ) (f g : ℕ → ℕ) → ((x : ℕ) → x ≢ i → f x ≤ g x) → y < n → y ≢ i → f y < g y → total_others n i f < total_others n i g
others_more_but n i y f g least below apart more =
    total_more n y (λ j. cond (eqb j i) 0 (f j)) (λ j. cond (eqb j i) 0 (g j)) (λ x. at x (cases_eq x i)) below
    (omega (arith, more, cond-false {A = ℕ} (eqb y i) 0 (f y) (ne_eqb y i apart), cond-false {A = ℕ} (eqb y i) 0 (g y) (ne_eqb y i apart)))
  where
    at : (x : ℕ) → (x ≡ i) ⊎ (x ≡ i → ⊥) → cond (eqb x i) 0 (f x) ≤ cond (eqb x i) 0 (g x)
    at x (inl e) = omega (arith, cond-true {A = ℕ} (eqb x i) 0 (f x) (eq-eqb x i e))
    at x (inr ne) = omega (arith, least x ne, cond-false {A = ℕ} (eqb x i) 0 (f x) (ne_eqb x i ne), cond-false {A = ℕ} (eqb x i) 0 (g x) (ne_eqb x i ne))

-- the seats that a site has, its own rights and those inside
abbrev pub held : Account → ℕ → ℕ
held a r = rights_of (view_of a) r + inside a r

-- what a site holds and gave away is what it was granted and got, over all sites of a layout (site_sum of FamilyLemmas of
-- multi_site_world, which keeps it private)
pub held_sum : (a : Account) (layout : LayoutState) (i r : ℕ) → IsSound a → a.origin.layout.records ≡ layout.records → a.sites ≤ layout.sites → a.origin.site ≡ i → held a r + total_others layout.sites i (λ j. own a r (Out j)) ≡ grant (shape_of layout) r i + total_others layout.sites i (λ j. known a r j (Out i))
held_sum a layout i r sound same_records few same_site =
    subst (λ (k : ℕ). held a r + total_others layout.sites k (λ j. own a r (Out j)) ≡ grant (shape_of layout) r k + total_others layout.sites k (λ j. known a r j (Out k))) same_site
    (omega (
      arith,
      site_sum_own a r sound,
      same_grant a.origin.layout layout same_records r a.origin.site,
      total_others_more a.sites layout.sites a.origin.site (λ j. own a r (Out j)) few (λ j past apart. sound.no_others.none_sent r j past),
      total_others_more a.sites layout.sites a.origin.site (λ j. known a r j (Out a.origin.site)) few nothing,
    ))
  where
    nothing : (j : ℕ) → a.sites ≤ j → j ≢ a.origin.site → known a r j (Out a.origin.site) ≡ 0
    nothing j past apart =
        omega (
          arith,
          known_other a r j (Out a.origin.site) apart,
          sound.no_others.none_told r j (Out a.origin.site) past,
          start_elsewhere (shape_of a.origin.layout) r j a.origin.site (λ e. apart (sym e)),
        )

-- a session counts in every sum over sessions
pub value_here : (value : Phase → ℕ) (a : Account) (r h : ℕ) (p : Phase) → IsSound a → phase_of a r h ≡ Some p → value p ≤ session_total value r (sessions_of a)
value_here value a r h p sound there =
    let f = adds value r (phase_of a) in
    let here : f r h ≡ value p = cond-true (eqb r r) (on_phase value (phase_of a r h)) 0 (eq-eqb r r refl) ∙ ap (on_phase value) there in
    omega (arith, sessions-keys value r (phase_of a) (arrivals a.origin a.done), keys_member r h f (arrivals a.origin a.done) (sound.listed_once r h p there))

-- a session takes its weight (as in FamilyLemmas of multi_site_world, which keeps it private)
pub weight_inside : (a : Account) (r h : ℕ) (p : Phase) → IsSound a → phase_of a r h ≡ Some p → weight (seats_in a.origin.layout r) p ≤ inside a r
weight_inside a r h p sound there = value_here (weight (seats_in a.origin.layout r)) a r h p sound there

-- who is inside takes a seat
pub some_inside : (a : Account) (r h : ℕ) → IsSound a → ((r < length a.origin.layout.records) → 1 ≤ seats_in a.origin.layout r) → IsInside (phase_of a r h) → 1 ≤ inside a r
some_inside a r h sound some there = at (phase_of a r h) refl there
  where
    at : (o : Option Phase) → phase_of a r h ≡ o → IsInside o → 1 ≤ inside a r
    at None e out = elim out [ ]
    at (Some Reader) e is = weight_inside a r h Reader sound e
    at (Some Waiting) e out = elim out [ ]
    at (Some Writer) e is = omega (arith, some (sound.record_there r h Writer e), weight_inside a r h Writer sound e)
