-- What is settled between lost sites is enough for each of them.
use Rattle.std.proofs.Common.{◌≡◌, ◌≢◌, ℕ, zero, suc, ◌+◌, ◌-◌, ◌<◌, ◌≤◌, ◌⊎◌, ◌&&◌, inl, inr, Bool, true, false, cond, eqb, length, refl, sym, ap, subst, ◌∙◌, arith}
use Rattle.std.proofs.lemmas.Bool.{cases_eq, cases_Bool, eq-eqb, ne_eqb, cond-true, cond-false, cond_both, and_from, and_left, and_right}
use Rattle.merge_core.specs.Counts.{counter_limit}
use Rattle.merge_core.specs.declared.cell.Cell.{Cell}
use Rattle.merge_core.specs.declared.cell.Cell.TheVariants.{Out}
use Rattle.merge_core.specs.Layout.{LayoutState, Shape, shape_of}
use Rattle.merge_core.specs.Rows.{grant}
use Rattle.merge_core.specs.Sums.{total, total_others}
use Rattle.merge_core.proofs.SumLemmas.{total_same, total_le, total_add, total_zero, total_others_same, total_others_zero, total_others-swap}
use Rattle.admission_model.specs.Account.{own}
use Rattle.admission_model.specs.Knowledge.{known}
use Rattle.admission_model.proofs.RowLemmas.{start_elsewhere}
use Rattle.multi_site_world.specs.World.{World, account_at}
use Rattle.multi_site_world.proofs.FamilyLemmas.{site_sum}
use Rattle.multi_site_world.proofs.WorldLemmas.{IsSoundWorld}
use Rattle.multi_site_world.proofs.EventLemmas.{known_done}
use Rattle.rebuild_laws.proofs.GroupLemmas.{own_known}
use Rattle.rebuild_laws.specs.Groups.{Losing, IsSettled, IsUnbegun, left_row, CanSpare}
use Rattle.rebuild_laws.specs.Settling.{total_left, total_lost, given_left, had_left, lacking, sparing, shared, settlement, settling, IsToldOf}

-- what a range shares with the ranges of f 0, .., f (n - 1), which follow on one another
shared_sum : (gone : ℕ → Bool) (n : ℕ) (f : ℕ → ℕ) (b k : ℕ) → total_lost gone n (λ e. shared (total_lost gone e f) (f e) b k) ≡ (total_lost gone n f - (total_lost gone n f - (b + k))) - b
shared_sum gone zero f b k = omega arith
shared_sum gone (suc n) f b k = at (shared_sum gone n f b k) (cases_Bool (gone n))
  where
    at : total_lost gone n (λ e. shared (total_lost gone e f) (f e) b k) ≡ (total_lost gone n f - (total_lost gone n f - (b + k))) - b → (gone n ≡ true) ⊎ (gone n ≡ false) → total_lost gone n (λ e. shared (total_lost gone e f) (f e) b k) + cond (gone n) (shared (total_lost gone n f) (f n) b k) 0 ≡ ((total_lost gone n f + cond (gone n) (f n) 0) - ((total_lost gone n f + cond (gone n) (f n) 0) - (b + k))) - b
    at before (inl e) =
        omega (arith, before, cond-true {A = ℕ} (gone n) (shared (total_lost gone n f) (f n) b k) 0 e, cond-true {A = ℕ} (gone n) (f n) 0 e)
    at before (inr e) =
        omega (arith, before, cond-false {A = ℕ} (gone n) (shared (total_lost gone n f) (f n) b k) 0 e, cond-false {A = ℕ} (gone n) (f n) 0 e)

-- numbers past the first n that are zero add nothing
total_past : (n m : ℕ) (f : ℕ → ℕ) → n ≤ m → ((j : ℕ) → n ≤ j → j < m → f j ≡ 0) → total m f ≡ total n f
total_past n zero f few none = let same : n ≡ 0 = omega arith in ap (λ (k : ℕ). total k f) (sym same)
total_past n (suc m) f few none = at (total_past n m f) (cases_eq n (suc m))
  where
    at : (n ≤ m → ((j : ℕ) → n ≤ j → j < m → f j ≡ 0) → total m f ≡ total n f) → (n ≡ suc m) ⊎ (n ≡ suc m → ⊥) → total m f + f m ≡ total n f
    at earlier (inl e) = subst (λ (k : ℕ). total m f + f m ≡ total k f) (sym e) refl
    at earlier (inr ne) =
        let under : n ≤ m = omega arith in
        omega (arith, earlier under (λ j past below. none j past (omega arith)), none m under (omega arith))

-- a lost site's number stands within the sum
lost_member : (gone : ℕ → Bool) (n d : ℕ) (f : ℕ → ℕ) → d < n → gone d ≡ true → total_lost gone d f + f d ≤ total_lost gone n f
lost_member gone zero d f below lost = absurd (omega arith)
lost_member gone (suc n) d f below lost = at (cases_eq d n) (lost_member gone n d f)
  where
    at : (d ≡ n) ⊎ (d ≡ n → ⊥) → (d < n → gone d ≡ true → total_lost gone d f + f d ≤ total_lost gone n f) → total_lost gone d f + f d ≤ total_lost gone n f + cond (gone n) (f n) 0
    at (inl e) earlier =
        subst (λ (m : ℕ). total_lost gone d f + f d ≤ total_lost gone m f + cond (gone m) (f m) 0) e
        (omega (arith, cond-true {A = ℕ} (gone d) (f d) 0 lost))
    at (inr ne) earlier = omega (arith, earlier (omega arith) lost)

-- two sums over lost sites of which each number is below the other's
lost_le : (gone : ℕ → Bool) (n : ℕ) (f g : ℕ → ℕ) → ((d : ℕ) → d < n → gone d ≡ true → f d ≤ g d) → total_lost gone n f ≤ total_lost gone n g
lost_le gone n f g each = total_le n (λ j. cond (gone j) (f j) 0) (λ j. cond (gone j) (g j) 0) (λ j below. at j below (cases_Bool (gone j)))
  where
    at : (j : ℕ) → j < n → (gone j ≡ true) ⊎ (gone j ≡ false) → cond (gone j) (f j) 0 ≤ cond (gone j) (g j) 0
    at j below (inl e) = omega (arith, each j below e, cond-true {A = ℕ} (gone j) (f j) 0 e, cond-true {A = ℕ} (gone j) (g j) 0 e)
    at j below (inr e) = omega (arith, cond-false {A = ℕ} (gone j) (f j) 0 e, cond-false {A = ℕ} (gone j) (g j) 0 e)

left_le : (gone : ℕ → Bool) (n : ℕ) (f g : ℕ → ℕ) → ((j : ℕ) → j < n → gone j ≡ false → f j ≤ g j) → total_left gone n f ≤ total_left gone n g
left_le gone n f g each = total_le n (λ j. cond (gone j) 0 (f j)) (λ j. cond (gone j) 0 (g j)) (λ j below. at j below (cases_Bool (gone j)))
  where
    at : (j : ℕ) → j < n → (gone j ≡ true) ⊎ (gone j ≡ false) → cond (gone j) 0 (f j) ≤ cond (gone j) 0 (g j)
    at j below (inl e) = omega (arith, cond-true {A = ℕ} (gone j) 0 (f j) e, cond-true {A = ℕ} (gone j) 0 (g j) e)
    at j below (inr e) = omega (arith, each j below e, cond-false {A = ℕ} (gone j) 0 (f j) e, cond-false {A = ℕ} (gone j) 0 (g j) e)

left_same : (gone : ℕ → Bool) (n : ℕ) (f g : ℕ → ℕ) → ((j : ℕ) → j < n → gone j ≡ false → f j ≡ g j) → total_left gone n f ≡ total_left gone n g
left_same gone n f g each =
    omega (arith, left_le gone n f g (λ j below e. omega (arith, each j below e)), left_le gone n g f (λ j below e. omega (arith, each j below e)))

lost_add : (gone : ℕ → Bool) (n : ℕ) (f g : ℕ → ℕ) → total_lost gone n (λ d. f d + g d) ≡ total_lost gone n f + total_lost gone n g
lost_add gone n f g =
    total_same n (λ j. cond (gone j) (f j + g j) 0) (λ j. cond (gone j) (f j) 0 + cond (gone j) (g j) 0) (λ j below. at j (cases_Bool (gone j)))
    ∙ total_add n (λ j. cond (gone j) (f j) 0) (λ j. cond (gone j) (g j) 0)
  where
    at : (j : ℕ) → (gone j ≡ true) ⊎ (gone j ≡ false) → cond (gone j) (f j + g j) 0 ≡ cond (gone j) (f j) 0 + cond (gone j) (g j) 0
    at j (inl e) = omega (arith, cond-true {A = ℕ} (gone j) (f j + g j) 0 e, cond-true {A = ℕ} (gone j) (f j) 0 e, cond-true {A = ℕ} (gone j) (g j) 0 e)
    at j (inr e) = omega (arith, cond-false {A = ℕ} (gone j) (f j + g j) 0 e, cond-false {A = ℕ} (gone j) (f j) 0 e, cond-false {A = ℕ} (gone j) (g j) 0 e)

-- a sum over the others of a lost site: over those that are left, and over the other lost ones
split_others : (gone : ℕ → Bool) (n d : ℕ) (f : ℕ → ℕ) → gone d ≡ true → total_others n d f ≡ total_left gone n f + total_others n d (λ j. cond (gone j) (f j) 0)
split_others gone n d f lost =
    total_same n (λ j. cond (eqb j d) 0 (f j)) (λ j. cond (gone j) 0 (f j) + cond (eqb j d) 0 (cond (gone j) (f j) 0)) (λ j below. at j (cases_eq j d) (cases_Bool (gone j)))
    ∙ total_add n (λ j. cond (gone j) 0 (f j)) (λ j. cond (eqb j d) 0 (cond (gone j) (f j) 0))
  where
    at : (j : ℕ) → (j ≡ d) ⊎ (j ≡ d → ⊥) → (gone j ≡ true) ⊎ (gone j ≡ false) → cond (eqb j d) 0 (f j) ≡ cond (gone j) 0 (f j) + cond (eqb j d) 0 (cond (gone j) (f j) 0)
    at j (inl e) other =
        omega (
          arith,
          cond-true {A = ℕ} (eqb j d) 0 (f j) (eq-eqb j d e),
          cond-true {A = ℕ} (eqb j d) 0 (cond (gone j) (f j) 0) (eq-eqb j d e),
          cond-true {A = ℕ} (gone j) 0 (f j) (ap gone e ∙ lost),
        )
    at j (inr ne) (inl e) =
        omega (
          arith,
          cond-false {A = ℕ} (eqb j d) 0 (f j) (ne_eqb j d ne),
          cond-false {A = ℕ} (eqb j d) 0 (cond (gone j) (f j) 0) (ne_eqb j d ne),
          cond-true {A = ℕ} (gone j) 0 (f j) e,
          cond-true {A = ℕ} (gone j) (f j) 0 e,
        )
    at j (inr ne) (inr e) =
        omega (
          arith,
          cond-false {A = ℕ} (eqb j d) 0 (f j) (ne_eqb j d ne),
          cond-false {A = ℕ} (eqb j d) 0 (cond (gone j) (f j) 0) (ne_eqb j d ne),
          cond-false {A = ℕ} (gone j) 0 (f j) e,
          cond-false {A = ℕ} (gone j) (f j) 0 e,
        )

module _ (shape : Shape) (gone : ℕ → Bool) (n : ℕ) (told : ℕ → ℕ → Cell → ℕ) where
  -- what is settled of two lost sites
  settled_both : (r d j : ℕ) → gone d ≡ true → gone j ≡ true → settlement shape gone n told r d j ≡ shared (total_lost gone d (sparing shape gone n told r)) (sparing shape gone n told r d) (total_lost gone j (lacking shape gone n told r)) (lacking shape gone n told r j)
  settled_both r d j e f = cond-true {A = ℕ} (gone d && gone j) (shared (total_lost gone d (sparing shape gone n told r)) (sparing shape gone n told r d) (total_lost gone j (lacking shape gone n told r)) (lacking shape gone n told r j)) 0 (and_from (gone d) (gone j) e f)

  -- a site that lacks seats has none to spare
  settled_self : (r d : ℕ) → gone d ≡ true → settlement shape gone n told r d d ≡ 0
  settled_self r d e = omega (arith, settled_both r d d e e)

  -- one lost site settles nothing
  pub settled_none : (d : ℕ) → ((i : ℕ) → gone i ≡ true → i ≡ d) → (r e j : ℕ) → settlement shape gone n told r e j ≡ 0
  settled_none d one r e j = at (cases_Bool (gone e)) (cases_Bool (gone j))
    where
      none : (gone e && gone j) ≡ false → settlement shape gone n told r e j ≡ 0
      none f = cond-false {A = ℕ} (gone e && gone j) (shared (total_lost gone e (sparing shape gone n told r)) (sparing shape gone n told r e) (total_lost gone j (lacking shape gone n told r)) (lacking shape gone n told r j)) 0 f

      at : (gone e ≡ true) ⊎ (gone e ≡ false) → (gone j ≡ true) ⊎ (gone j ≡ false) → settlement shape gone n told r e j ≡ 0
      at (inl f) (inl g) =
          subst (λ (k : ℕ). settlement shape gone n told r e k ≡ 0) (one e f ∙ sym (one j g)) (settled_self r e f)
      at (inl f) (inr g) = none (and_right (gone e) (gone j) g)
      at (inr f) other = none (and_left (gone e) (gone j) f)

  -- the sums of what a lost site gives, and of what it gets
  settled_given : (r d : ℕ) → gone d ≡ true → total_lost gone n (λ j. settlement shape gone n told r d j) ≤ sparing shape gone n told r d
  settled_given r d e =
      omega (
        arith,
        lost_le gone n (λ j. settlement shape gone n told r d j) (λ j. shared (total_lost gone j (lacking shape gone n told r)) (lacking shape gone n told r j) (total_lost gone d (sparing shape gone n told r)) (sparing shape gone n told r d))
            (λ j below f. omega (arith, settled_both r d j e f)),
        shared_sum gone n (lacking shape gone n told r) (total_lost gone d (sparing shape gone n told r)) (sparing shape gone n told r d),
      )

  settled_got : (r d : ℕ) → d < n → gone d ≡ true → total_lost gone n (lacking shape gone n told r) ≤ total_lost gone n (sparing shape gone n told r) → lacking shape gone n told r d ≤ total_lost gone n (λ j. settlement shape gone n told r j d)
  settled_got r d below e enough =
      omega (
        arith,
        lost_le gone n (λ j. shared (total_lost gone j (sparing shape gone n told r)) (sparing shape gone n told r j) (total_lost gone d (lacking shape gone n told r)) (lacking shape gone n told r d)) (λ j. settlement shape gone n told r j d)
            (λ j there f. omega (arith, settled_both r j d f e)),
        shared_sum gone n (sparing shape gone n told r) (total_lost gone d (lacking shape gone n told r)) (lacking shape gone n told r d),
        lost_member gone n d (lacking shape gone n told r) below e,
      )

  -- what all lost sites lack they have over together, where they gave no more than they had
  enough_in_all : (r : ℕ) → total_lost gone n (given_left gone n told r) ≤ total_lost gone n (had_left shape gone n told r) → total_lost gone n (lacking shape gone n told r) ≤ total_lost gone n (sparing shape gone n told r)
  enough_in_all r most =
      omega (
        arith,
        most,
        lost_add gone n (given_left gone n told r) (sparing shape gone n told r),
        lost_add gone n (had_left shape gone n told r) (lacking shape gone n told r),
        lost_le gone n (λ d. had_left shape gone n told r d + lacking shape gone n told r d) (λ d. given_left gone n told r d + sparing shape gone n told r d) (λ d below e. omega arith),
      )

-- the lost sites of a sound world gave no more to those that are left than they had of them
module _ (w : World) (sound : IsSoundWorld w) (gone : ℕ → Bool) where
  -- what lost site i gave to lost site j
  abbrev between : ℕ → ℕ → ℕ → ℕ
  between r i j = cond (gone i) (cond (gone j) (own (account_at w i) r (Out j)) 0) 0

  one_gave : (r d : ℕ) → d < w.layout.sites → gone d ≡ true → total_left gone w.layout.sites (λ j. known (account_at w j) r d (Out j)) + total_others w.layout.sites d (λ j. cond (gone j) (own (account_at w d) r (Out j)) 0) ≤ (grant (shape_of w.layout) r d + total_left gone w.layout.sites (λ j. own (account_at w j) r (Out d))) + total_others w.layout.sites d (λ j. cond (gone j) (own (account_at w j) r (Out d)) 0)
  one_gave r d below lost =
      omega (
        arith,
        site_sum (account_at w d) w.layout d r (sound.family.sound d below) (sound.family.same_records d below) (sound.family.few_sites d below) (sound.family.same_site d below),
        split_others gone w.layout.sites d (λ j. own (account_at w d) r (Out j)) lost,
        split_others gone w.layout.sites d (λ j. own (account_at w j) r (Out d)) lost,
        left_le gone w.layout.sites (λ j. known (account_at w j) r d (Out j)) (λ j. own (account_at w d) r (Out j)) (λ j there e. known_done w j d sound there below r (Out j)),
        total_le w.layout.sites (λ j. cond (eqb j d) 0 (known (account_at w d) r j (Out d))) (λ j. cond (eqb j d) 0 (own (account_at w j) r (Out d))) (λ j there. at j there (cases_eq j d)),
      )
    where
      at : (j : ℕ) → j < w.layout.sites → (j ≡ d) ⊎ (j ≡ d → ⊥) → cond (eqb j d) 0 (known (account_at w d) r j (Out d)) ≤ cond (eqb j d) 0 (own (account_at w j) r (Out d))
      at j there (inl e) =
          omega (arith, cond-true {A = ℕ} (eqb j d) 0 (known (account_at w d) r j (Out d)) (eq-eqb j d e), cond-true {A = ℕ} (eqb j d) 0 (own (account_at w j) r (Out d)) (eq-eqb j d e))
      at j there (inr ne) =
          omega (
            arith,
            known_done w d j sound below there r (Out d),
            cond-false {A = ℕ} (eqb j d) 0 (known (account_at w d) r j (Out d)) (ne_eqb j d ne),
            cond-false {A = ℕ} (eqb j d) 0 (own (account_at w j) r (Out d)) (ne_eqb j d ne),
          )

  -- what lost sites gave to one another: the same sum, taken by givers or by receivers
  pub all_gave : (r : ℕ) → total_lost gone w.layout.sites (λ d. total_left gone w.layout.sites (λ j. known (account_at w j) r d (Out j))) ≤ total_lost gone w.layout.sites (λ d. grant (shape_of w.layout) r d + total_left gone w.layout.sites (λ j. own (account_at w j) r (Out d)))
  all_gave r =
      omega (
        arith,
        total_others-swap w.layout.sites (λ i j. between r i j),
        total_le w.layout.sites (λ d. cond (gone d) (gave d) 0 + total_others w.layout.sites d (λ j. between r d j)) (λ d. cond (gone d) (had d) 0 + total_others w.layout.sites d (λ j. between r j d)) (λ d below. at d below (cases_Bool (gone d))),
        total_add w.layout.sites (λ d. cond (gone d) (gave d) 0) (λ d. total_others w.layout.sites d (λ j. between r d j)),
        total_add w.layout.sites (λ d. cond (gone d) (had d) 0) (λ d. total_others w.layout.sites d (λ j. between r j d)),
      )
    where
      gave : ℕ → ℕ
      gave d = total_left gone w.layout.sites (λ j. known (account_at w j) r d (Out j))

      had : ℕ → ℕ
      had d = grant (shape_of w.layout) r d + total_left gone w.layout.sites (λ j. own (account_at w j) r (Out d))

      from_lost : (d : ℕ) → gone d ≡ true → total_others w.layout.sites d (λ j. between r d j) ≡ total_others w.layout.sites d (λ j. cond (gone j) (own (account_at w d) r (Out j)) 0)
      from_lost d e =
          total_others_same w.layout.sites d (λ j. between r d j) (λ j. cond (gone j) (own (account_at w d) r (Out j)) 0)
          (λ j below apart. cond-true {A = ℕ} (gone d) (cond (gone j) (own (account_at w d) r (Out j)) 0) 0 e)

      to_lost : (d j : ℕ) → gone d ≡ true → (gone j ≡ true) ⊎ (gone j ≡ false) → between r j d ≡ cond (gone j) (own (account_at w j) r (Out d)) 0
      to_lost d j e (inl f) =
          cond-true {A = ℕ} (gone j) (cond (gone d) (own (account_at w j) r (Out d)) 0) 0 f
          ∙ (cond-true {A = ℕ} (gone d) (own (account_at w j) r (Out d)) 0 e ∙ sym (cond-true {A = ℕ} (gone j) (own (account_at w j) r (Out d)) 0 f))
      to_lost d j e (inr f) =
          cond-false {A = ℕ} (gone j) (cond (gone d) (own (account_at w j) r (Out d)) 0) 0 f
          ∙ sym (cond-false {A = ℕ} (gone j) (own (account_at w j) r (Out d)) 0 f)

      all_to_lost : (d : ℕ) → gone d ≡ true → total_others w.layout.sites d (λ j. between r j d) ≡ total_others w.layout.sites d (λ j. cond (gone j) (own (account_at w j) r (Out d)) 0)
      all_to_lost d e =
          total_others_same w.layout.sites d (λ j. between r j d) (λ j. cond (gone j) (own (account_at w j) r (Out d)) 0)
          (λ j below apart. to_lost d j e (cases_Bool (gone j)))

      from_left : (d j : ℕ) → gone d ≡ false → between r d j ≡ 0
      from_left d j e = cond-false {A = ℕ} (gone d) (cond (gone j) (own (account_at w d) r (Out j)) 0) 0 e

      to_left : (d j : ℕ) → gone d ≡ false → (gone j ≡ true) ⊎ (gone j ≡ false) → between r j d ≡ 0
      to_left d j e (inl f) =
          cond-true {A = ℕ} (gone j) (cond (gone d) (own (account_at w j) r (Out d)) 0) 0 f
          ∙ cond-false {A = ℕ} (gone d) (own (account_at w j) r (Out d)) 0 e
      to_left d j e (inr f) = cond-false {A = ℕ} (gone j) (cond (gone d) (own (account_at w j) r (Out d)) 0) 0 f

      at : (d : ℕ) → d < w.layout.sites → (gone d ≡ true) ⊎ (gone d ≡ false) → cond (gone d) (gave d) 0 + total_others w.layout.sites d (λ j. between r d j) ≤ cond (gone d) (had d) 0 + total_others w.layout.sites d (λ j. between r j d)
      at d below (inl e) =
          omega (
            arith,
            one_gave r d below e,
            cond-true {A = ℕ} (gone d) (gave d) 0 e,
            cond-true {A = ℕ} (gone d) (had d) 0 e,
            from_lost d e,
            all_to_lost d e,
          )
      at d below (inr e) =
          omega (
            arith,
            cond-false {A = ℕ} (gone d) (gave d) 0 e,
            cond-false {A = ℕ} (gone d) (had d) 0 e,
            total_others_zero w.layout.sites d (λ j. between r d j) (λ j. from_left d j e),
          )

-- with what is settled each lost site can spare what it gave, where only the first n sites have begun
module _ (w : World) (sound : IsSoundWorld w) (gone : ℕ → Bool) (n : ℕ) (few : n ≤ w.layout.sites) (lower : (i : ℕ) → gone i ≡ true → i < n) (unbegun : (i : ℕ) → n ≤ i → i < w.layout.sites → IsUnbegun w i) (told : ℕ → ℕ → Cell → ℕ) (is : IsToldOf w gone n told) where
  abbrev of_group : Losing
  of_group = settling (shape_of w.layout) gone n told

  abbrev settled : ℕ → ℕ → ℕ → ℕ
  settled = of_group.settled

  -- what is zero past the n sites has the same sum over all
  same_left : (f : ℕ → ℕ) → ((j : ℕ) → n ≤ j → j < w.layout.sites → f j ≡ 0) → total_left gone w.layout.sites f ≡ total_left gone n f
  same_left f none = total_past n w.layout.sites (λ j. cond (gone j) 0 (f j)) few (λ j past below. cond_both (gone j) 0 (f j) (λ x. x ≡ 0) (λ e. refl) (λ e. none j past below))

  same_lost : (f : ℕ → ℕ) → total_lost gone w.layout.sites f ≡ total_lost gone n f
  same_lost f = total_past n w.layout.sites (λ j. cond (gone j) (f j) 0) few (λ j past below. at j past (cases_Bool (gone j)))
    where
      at : (j : ℕ) → n ≤ j → (gone j ≡ true) ⊎ (gone j ≡ false) → cond (gone j) (f j) 0 ≡ 0
      at j past (inl e) = absurd (omega (arith, lower j e))
      at j past (inr e) = cond-false {A = ℕ} (gone j) (f j) 0 e

  -- sites that have not begun gave nothing, and know of no seats given to them
  none_known : (r d j : ℕ) → gone d ≡ true → n ≤ j → j < w.layout.sites → known (account_at w j) r d (Out j) ≡ 0
  none_known r d j lost past below =
      let apart : j ≢ d = λ e. absurd (omega (arith, lower d lost)) in
      omega (arith, unbegun j past below r d (Out j), start_elsewhere (shape_of w.layout) r d j apart)

  none_own : (r d j : ℕ) → gone d ≡ true → n ≤ j → j < w.layout.sites → own (account_at w j) r (Out d) ≡ 0
  none_own r d j lost past below =
      let apart : d ≢ j = λ e. absurd (omega (arith, lower d lost)) in
      omega (arith, own_known w j sound below r (Out d), unbegun j past below r j (Out d), start_elsewhere (shape_of w.layout) r j d apart)

  abbrev knew : ℕ → ℕ → ℕ
  knew r d = total_left gone w.layout.sites (λ j. known (account_at w j) r d (Out j))

  abbrev gave : ℕ → ℕ → ℕ
  gave r d = total_left gone w.layout.sites (λ j. own (account_at w j) r (Out d))

  told_given : (r d : ℕ) → gone d ≡ true → given_left gone n told r d ≡ knew r d
  told_given r d e =
      left_same gone n (λ j. told r d (Out j)) (λ j. known (account_at w j) r d (Out j)) (λ j below f. is.sent r d j e below f)
      ∙ sym (same_left (λ j. known (account_at w j) r d (Out j)) (λ j past below. none_known r d j e past below))

  told_had : (r d : ℕ) → gone d ≡ true → had_left (shape_of w.layout) gone n told r d ≡ grant (shape_of w.layout) r d + gave r d
  told_had r d e =
      let same = left_same gone n (λ j. told r j (Out d)) (λ j. own (account_at w j) r (Out d)) (λ j below f. is.column r d j e below f) in
      omega (arith, same, same_left (λ j. own (account_at w j) r (Out d)) (λ j past below. none_own r d j e past below))

  enough : (r : ℕ) → total_lost gone n (lacking (shape_of w.layout) gone n told r) ≤ total_lost gone n (sparing (shape_of w.layout) gone n told r)
  enough r =
      enough_in_all (shape_of w.layout) gone n told r
      (omega (
        arith,
        all_gave w sound gone r,
        same_lost (λ d. knew r d),
        same_lost (λ d. grant (shape_of w.layout) r d + gave r d),
        lost_le gone n (given_left gone n told r) (λ d. knew r d) (λ d below e. omega (arith, told_given r d e)),
        lost_le gone n (λ d. grant (shape_of w.layout) r d + gave r d) (had_left (shape_of w.layout) gone n told r) (λ d below e. omega (arith, told_had r d e)),
      ))

  -- what a lost site gave, to those that are left and as is settled
  row_sum : (r d : ℕ) → gone d ≡ true → total_others w.layout.sites d (λ j. left_row w of_group d r (Out j)) ≤ knew r d + total_lost gone w.layout.sites (λ j. settled r d j)
  row_sum r d lost =
      omega (
        arith,
        total_add w.layout.sites (λ j. cond (gone j) 0 (known (account_at w j) r d (Out j))) (λ j. cond (gone j) (settled r d j) 0),
        total_le w.layout.sites (λ j. cond (eqb j d) 0 (left_row w of_group d r (Out j))) (λ j. cond (gone j) 0 (known (account_at w j) r d (Out j)) + cond (gone j) (settled r d j) 0) (λ j below. at j (cases_eq j d) (cases_Bool (gone j))),
      )
    where
      other : (j : ℕ) → (j ≡ d → ⊥) → cond (eqb j d) 0 (left_row w of_group d r (Out j)) ≡ cond (gone j) (settled r d j) (known (account_at w j) r d (Out j))
      other j ne =
          cond-false {A = ℕ} (eqb j d) 0 (left_row w of_group d r (Out j)) (ne_eqb j d ne)
          ∙ cond-false {A = ℕ} (eqb j d) (grant (shape_of w.layout) r d) (cond (gone j) (settled r d j) (known (account_at w j) r d (Out j))) (ne_eqb j d ne)

      at : (j : ℕ) → (j ≡ d) ⊎ (j ≡ d → ⊥) → (gone j ≡ true) ⊎ (gone j ≡ false) → cond (eqb j d) 0 (left_row w of_group d r (Out j)) ≤ cond (gone j) 0 (known (account_at w j) r d (Out j)) + cond (gone j) (settled r d j) 0
      at j (inl e) somewhere = omega (arith, cond-true {A = ℕ} (eqb j d) 0 (left_row w of_group d r (Out j)) (eq-eqb j d e))
      at j (inr ne) (inl e) =
          omega (
            arith,
            other j ne,
            cond-true {A = ℕ} (gone j) (settled r d j) (known (account_at w j) r d (Out j)) e,
            cond-true {A = ℕ} (gone j) (settled r d j) 0 e,
          )
      at j (inr ne) (inr e) =
          omega (
            arith,
            other j ne,
            cond-false {A = ℕ} (gone j) (settled r d j) (known (account_at w j) r d (Out j)) e,
            cond-false {A = ℕ} (gone j) 0 (known (account_at w j) r d (Out j)) e,
          )

  column_sum : (r d : ℕ) → gone d ≡ true → gave r d + total_lost gone w.layout.sites (λ j. settled r j d) ≤ total_others w.layout.sites d (λ j. cond (gone j) (settled r j d) (own (account_at w j) r (Out d)))
  column_sum r d lost =
      omega (
        arith,
        total_add w.layout.sites (λ j. cond (gone j) 0 (own (account_at w j) r (Out d))) (λ j. cond (gone j) (settled r j d) 0),
        total_le w.layout.sites (λ j. cond (gone j) 0 (own (account_at w j) r (Out d)) + cond (gone j) (settled r j d) 0) (λ j. cond (eqb j d) 0 (cond (gone j) (settled r j d) (own (account_at w j) r (Out d)))) (λ j below. at j (cases_eq j d) (cases_Bool (gone j))),
      )
    where
      at : (j : ℕ) → (j ≡ d) ⊎ (j ≡ d → ⊥) → (gone j ≡ true) ⊎ (gone j ≡ false) → cond (gone j) 0 (own (account_at w j) r (Out d)) + cond (gone j) (settled r j d) 0 ≤ cond (eqb j d) 0 (cond (gone j) (settled r j d) (own (account_at w j) r (Out d)))
      at j (inl e) somewhere =
          let is_lost : gone j ≡ true = ap gone e ∙ lost in
          omega (
            arith,
            cond-true {A = ℕ} (gone j) 0 (own (account_at w j) r (Out d)) is_lost,
            cond-true {A = ℕ} (gone j) (settled r j d) 0 is_lost,
            ap (λ (k : ℕ). settled r k d) e,
            settled_self (shape_of w.layout) gone n told r d lost,
          )
      at j (inr ne) (inl e) =
          omega (
            arith,
            cond-false {A = ℕ} (eqb j d) 0 (cond (gone j) (settled r j d) (own (account_at w j) r (Out d))) (ne_eqb j d ne),
            cond-true {A = ℕ} (gone j) (settled r j d) (own (account_at w j) r (Out d)) e,
            cond-true {A = ℕ} (gone j) 0 (own (account_at w j) r (Out d)) e,
            cond-true {A = ℕ} (gone j) (settled r j d) 0 e,
          )
      at j (inr ne) (inr e) =
          omega (
            arith,
            cond-false {A = ℕ} (eqb j d) 0 (cond (gone j) (settled r j d) (own (account_at w j) r (Out d))) (ne_eqb j d ne),
            cond-false {A = ℕ} (gone j) (settled r j d) (own (account_at w j) r (Out d)) e,
            cond-false {A = ℕ} (gone j) 0 (own (account_at w j) r (Out d)) e,
            cond-false {A = ℕ} (gone j) (settled r j d) 0 e,
          )

  pub settled_spares : (d : ℕ) → gone d ≡ true → CanSpare w of_group d
  settled_spares d lost r =
      omega (
        arith,
        row_sum r d lost,
        column_sum r d lost,
        same_lost (λ j. settled r d j),
        same_lost (λ j. settled r j d),
        told_given r d lost,
        told_had r d lost,
        settled_given (shape_of w.layout) gone n told r d lost,
        settled_got (shape_of w.layout) gone n told r d (lower d lost) lost (enough r),
      )

-- what is settled is between lost sites, of records that are there
pub settling_is : (layout : LayoutState) (gone : ℕ → Bool) (n : ℕ) (told : ℕ → ℕ → Cell → ℕ) → ((r s : ℕ) (cell : Cell) → length layout.records ≤ r → told r s cell ≡ 0) → ((r d : ℕ) → gone d ≡ true → lacking (shape_of layout) gone n told r d ≤ counter_limit) → IsSettled layout (settling (shape_of layout) gone n told)
settling_is layout gone n told none few = record {
  by_lost = λ r d j e. unsettled r d j (and_left (gone d) (gone j) e);
  to_lost = λ r d j e. unsettled r d j (and_right (gone d) (gone j) e);
  to_others = λ r d. self r d (cases_Bool (gone d));
  of_records = λ r d j past. omega (arith, past_lacking r j past, at_most r d j (cases_Bool (gone d)) (cases_Bool (gone j)));
  few = λ r d j. within r d j (cases_Bool (gone d)) (cases_Bool (gone j));
}
  where
    shape : Shape
    shape = shape_of layout

    unsettled : (r d j : ℕ) → (gone d && gone j) ≡ false → settlement (shape_of layout) gone n told r d j ≡ 0
    unsettled r d j e =
        cond-false {A = ℕ} (gone d && gone j) (shared (total_lost gone d (sparing (shape_of layout) gone n told r)) (sparing (shape_of layout) gone n told r d) (total_lost gone j (lacking (shape_of layout) gone n told r)) (lacking (shape_of layout) gone n told r j)) 0 e

    self : (r d : ℕ) → (gone d ≡ true) ⊎ (gone d ≡ false) → settlement (shape_of layout) gone n told r d d ≡ 0
    self r d (inl e) = settled_self (shape_of layout) gone n told r d e
    self r d (inr e) = unsettled r d d (and_left (gone d) (gone d) e)

    at_most : (r d j : ℕ) → (gone d ≡ true) ⊎ (gone d ≡ false) → (gone j ≡ true) ⊎ (gone j ≡ false) → settlement (shape_of layout) gone n told r d j ≤ lacking (shape_of layout) gone n told r j
    at_most r d j (inl e) (inl f) = omega (arith, settled_both (shape_of layout) gone n told r d j e f)
    at_most r d j (inl e) (inr f) = omega (arith, unsettled r d j (and_right (gone d) (gone j) f))
    at_most r d j (inr e) other = omega (arith, unsettled r d j (and_left (gone d) (gone j) e))

    within : (r d j : ℕ) → (gone d ≡ true) ⊎ (gone d ≡ false) → (gone j ≡ true) ⊎ (gone j ≡ false) → settlement (shape_of layout) gone n told r d j ≤ counter_limit
    within r d j lost (inl f) = omega (arith, at_most r d j lost (inl f), few r j f)
    within r d j lost (inr f) = omega (arith, unsettled r d j (and_right (gone d) (gone j) f))

    past_lacking : (r d : ℕ) → length layout.records ≤ r → lacking (shape_of layout) gone n told r d ≡ 0
    past_lacking r d past =
        let nothing = total_zero n (λ j. cond (gone j) 0 (told r d (Out j))) (λ j below. cond_both (gone j) 0 (told r d (Out j)) (λ x. x ≡ 0) (λ e. refl) (λ e. none r d (Out j) past)) in
        omega arith
