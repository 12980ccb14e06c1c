-- What a list in rising order has after an element is put, and that its elements decide it.
use Rattle.std.proofs.Common.{◌≡◌, ◌⊎◌, Bool, true, false, cond, not, List, [], ◌∷◌, IsTrue, refl, sym, ◌∙◌, ap₂, inl, inr, filter}
use Rattle.std.specs.List.{AllByRecursion}
use Rattle.std.proofs.lemmas.Bool.{cases_Bool, both_ways}
use Rattle.sqlite_rules.specs.Lists.{Has}
use Rattle.sqlite_rules.proofs.ListLemmas.{all_has, all_from, has_filtered}
use Rattle.store_rows.specs.Sorted.{IsRising, put}

-- an order by places: it is strict, and two elements of one place are before the same
pub record IsOrder {X : Type 0} (before : X → X → Bool) : Type 0 where
  pub strict : (x : X) → before x x ≡ false
  pub through : (x y z : X) → before x y ≡ true → before y z ≡ true → before x z ≡ true
  pub beside : (x y z : X) → before x y ≡ false → before y x ≡ false → before y z ≡ true → before x z ≡ true

-- two elements have one place
abbrev pub ties : {X : Type 0} → (X → X → Bool) → X → X → Bool
ties before x y = cond (before x y) false (not (before y x))

module _ {X : Type 0} (before : X → X → Bool) (order : IsOrder before) where
  later_all : (x y : X) (ys : List X) → before x y ≡ true → AllByRecursion (λ z. IsTrue (before y z)) ys → AllByRecursion (λ z. IsTrue (before x z)) ys
  later_all x y ys first rest = all_from _ ys (λ z h. order.through x y z first (all_has _ ys z rest h))

  pub put_has : (x : X) (ys : List X) (z : X) → IsRising before ys → Has (put before x ys) z → (z ≡ x) ⊎ (Has ys z × (ties before x z ≡ false))
  put_has x [] z up (inl e) = inl e
  put_has x [] z up (inr h) = absurd h
  put_has x (y ∷ ys) z up h = elim (cases_Bool (before x y)) [
    | inl first ↦ elim (rw first at h) [
      | inl e ↦ inl e
      | inr (inl e) ↦ inr (inl e, rw (e, first))
      | inr (inr k) ↦ inr (inr k, rw (all_has _ ys z (later_all x y ys first up.0) k))
    ]
    | inr other ↦ elim (cases_Bool (before y x)) [
      | inl last ↦ elim (rw (other, last) at h) [
        | inl e ↦ inr (inl e, rw (e, other, last))
        | inr k ↦ elim (put_has x ys z up.1 k) [ inl e ↦ inl e | inr was ↦ inr (inr was.0, was.1) ]
      ]
      | inr same ↦ elim (rw (other, same) at h) [
        | inl e ↦ inl e
        | inr k ↦ inr (inr k, rw (order.beside x y z other same (all_has _ ys z up.0 k)))
      ]
    ]
  ]

  pub has_put : (x : X) (ys : List X) → Has (put before x ys) x
  has_put x [] = inl refl
  has_put x (y ∷ ys) = elim (cases_Bool (before x y)) [
    | inl first ↦ rw first (inl refl)
    | inr other ↦ elim (cases_Bool (before y x)) [ inl last ↦ rw (other, last) (inr (has_put x ys)) | inr same ↦ rw (other, same) (inl refl) ]
  ]

  pub put_keeps : (x : X) (ys : List X) (z : X) → Has ys z → ties before x z ≡ false → Has (put before x ys) z
  put_keeps x [] z h apart = absurd h
  put_keeps x (y ∷ ys) z h apart = elim (cases_Bool (before x y)) [
    | inl first ↦ rw first (inr h)
    | inr other ↦ elim (cases_Bool (before y x)) [
      | inl last ↦ rw (other, last) (elim h [ inl e ↦ inl e | inr k ↦ inr (put_keeps x ys z k apart) ])
      | inr same ↦ rw (other, same) (elim h [
        | inl e ↦ absurd (let e1 : before x z ≡ false = rw e other in let e2 : before z x ≡ false = rw e same in both_ways (ties before x z) apart (rw (e1, e2)))
        | inr k ↦ inr k
      ])
    ]
  ]

  pub put_rises : (x : X) (ys : List X) → IsRising before ys → IsRising before (put before x ys)
  put_rises x [] up = (tt, tt)
  put_rises x (y ∷ ys) up = elim (cases_Bool (before x y)) [
    | inl first ↦ rw first ((first, later_all x y ys first up.0), up)
    | inr other ↦ elim (cases_Bool (before y x)) [
      | inl last ↦ rw (other, last) (
        all_from _ (put before x ys) (λ z h. elim (put_has x ys z up.1 h) [
          | inl e ↦ rw e last
          | inr was ↦ all_has _ ys z up.0 was.0
        ]),
        put_rises x ys up.1,
      )
      | inr same ↦ rw (other, same) (all_from _ ys (λ z h. order.beside x y z other same (all_has _ ys z up.0 h)), up.1)
    ]
  ]

  pub filter_rises : (p : X → Bool) (ys : List X) → IsRising before ys → IsRising before (filter p ys)
  filter_rises p [] up = tt
  filter_rises p (y ∷ ys) up = elim (cases_Bool (p y)) [
    | inl e ↦ rw e (all_from _ (filter p ys) (λ z h. all_has _ ys z up.0 (has_filtered p ys z h).0), filter_rises p ys up.1)
    | inr e ↦ rw e (filter_rises p ys up.1)
  ]

  -- two rising lists with the same elements are one
  pub one_rising : (xs ys : List X) → IsRising before xs → IsRising before ys → ((z : X) → Has xs z → Has ys z) → ((z : X) → Has ys z → Has xs z) → xs ≡ ys
  one_rising [] [] p q a b = refl
  one_rising [] (y ∷ ys) p q a b = absurd (b y (inl refl))
  one_rising (x ∷ xs) [] p q a b = absurd (a x (inl refl))
  one_rising (x ∷ xs) (y ∷ ys) p q a b =
      let first : x ≡ y = elim (a x (inl refl)) [
        | inl e ↦ e
        | inr later ↦ elim (b y (inl refl)) [
          | inl e ↦ sym e
          | inr also ↦ absurd (both_ways _ (order.strict x) (order.through x y x (all_has _ xs y p.0 also) (all_has _ ys x q.0 later)))
        ]
      ] in
      ap₂ ◌∷◌ first (one_rising xs ys p.1 q.1
      (λ z h. elim (a z (inr h)) [ inl e ↦ absurd (both_ways _ (order.strict x) (rw (e ∙ sym first) at (all_has _ xs z p.0 h))) | inr k ↦ k ])
      (λ z h. elim (b z (inr h)) [ inl e ↦ absurd (both_ways _ (order.strict y) (rw (e ∙ first) at (all_has _ ys z q.0 h))) | inr k ↦ k ]))
