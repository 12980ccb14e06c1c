-- The table of notices after those of a change were put.
use Rattle.std.proofs.Common.{◌≡◌, inl, inr, ℕ, ◌+◌, ◌-◌, ◌≤◌, Bool, true, false, ◌&&◌, ◌||◌, nat_lt, cond, List, [], ◌∷◌, map, filter, Some, None, refl, sym, ap, ◌∙◌, arith}
use Rattle.std.proofs.lemmas.Bool.{cases_Bool}
use Rattle.std.proofs.lemmas.Bool.Decides.{nat_tests}
use Rattle.admission_model.specs.declared.durable.DurableCell.{DurableCell}
use Rattle.admission_model.specs.Restoring.{stored_at}
use Rattle.store_rows.specs.declared.content.StoredNotice.{StoredNotice}
use Rattle.store_rows.specs.Rows.{Stored, notice_before}
use Rattle.store_rows.specs.Sorted.{put, put_all}
use Rattle.store_content.specs.Content.{notice_in}
use Rattle.store_content.specs.Known.{same_key}
use Rattle.store_content.specs.Plan.{begins_row, row_after, site_at}
use Rattle.durable_keeper.proofs.CellLists.{is_at}
use Rattle.store_content.proofs.IndexLemmas.{notice_put}

key_first : (r j q k : ℕ) → same_key (r, j) (q, k) ≡ true → r ≡ q
key_first r j q k e = grind (arith, nat_tests)

key_second : (r j q k : ℕ) → same_key (r, j) (q, k) ≡ true → j ≡ k
key_second r j q k e = grind (arith, nat_tests)

key_refl : (r j : ℕ) → same_key (r, j) (r, j) ≡ true
key_refl r j = grind (arith, nat_tests)

either : {X : Type 0} (b : Bool) (x : X) → cond b x x ≡ x
either true x = refl
either false x = refl

true_not_false : (b : Bool) → b ≡ true → b ≡ false → ⊥
true_not_false b e f = let clash : true ≡ false = sym e ∙ f in cc

or_right : (a b : Bool) → (a || b) ≡ false → b ≡ false
or_right true b e = let clash : true ≡ false = e in cc
or_right false b e = e

module _ (all : List DurableCell) (it : Stored) where
  abbrev pub row_of : DurableCell → StoredNotice
  row_of x = row_after all it x.r (site_at x.slot)

  abbrev pub rows_of : List DurableCell → List StoredNotice
  rows_of xs = map row_of (filter (begins_row all) xs)

  -- a cell begins the row of a site at a record
  abbrev pub begins : ℕ → ℕ → DurableCell → Bool
  begins r j x = begins_row all x && same_key (r, j) (x.r, site_at x.slot)

  pub has_row : ℕ → ℕ → List DurableCell → Bool
  has_row r j [] = false
  has_row r j (x ∷ xs) = begins r j x || has_row r j xs

  rows_push : (x : DurableCell) (xs : List DurableCell) (b : Bool) → begins_row all x ≡ b → rows_of (x ∷ xs) ≡ cond b (row_of x ∷ rows_of xs) (rows_of xs)
  rows_push x xs true e = rw e refl
  rows_push x xs false e = rw e refl

  same_row : (r j : ℕ) (x : DurableCell) → same_key (r, j) (x.r, site_at x.slot) ≡ true → row_of x ≡ row_after all it r j
  same_row r j x e =
      let p : r ≡ x.r = key_first r j x.r (site_at x.slot) e in
      let q : j ≡ site_at x.slot = key_second r j x.r (site_at x.slot) e in
      ap (λ a. row_after all it a (site_at x.slot)) (sym p) ∙ ap (row_after all it r) (sym q)

  -- the row of a site at a record, after the rows were put
  pub row_found : (xs : List DurableCell) (ns : List StoredNotice) (r j : ℕ)
      → notice_in (put_all notice_before (rows_of xs) ns) r j ≡ cond (has_row r j xs) (Some (row_after all it r j)) (notice_in ns r j)
  unfolding has_row
  row_found [] ns r j = refl
  row_found (x ∷ xs) ns r j = elim (cases_Bool (begins_row all x)) [
    | inl e ↦
        ap (λ l. notice_in (put_all notice_before l ns) r j) (rows_push x xs true e) ∙ row_found xs (put notice_before (row_of x) ns) r j
        ∙ ap (cond (has_row r j xs) (Some (row_after all it r j))) (notice_put (row_of x) ns r j)
        ∙ elim (cases_Bool (same_key (r, j) (x.r, site_at x.slot))) [
          | inl f ↦ rw (e, f) (ap (λ n. cond (has_row r j xs) (Some (row_after all it r j)) (Some n)) (same_row r j x f) ∙ either (has_row r j xs) (Some (row_after all it r j)))
          | inr f ↦ rw (e, f) refl
        ]
    | inr e ↦ ap (λ l. notice_in (put_all notice_before l ns) r j) (rows_push x xs false e) ∙ row_found xs ns r j ∙ rw e refl
  ]

  begins_announced : (r j : ℕ) (x : DurableCell) → j ≤ 15 → is_at r (300 + j) x ≡ true → begins r j x ≡ true
  begins_announced r j x few e =
      let p : x.r ≡ r = grind (arith, nat_tests) in
      let q : x.slot ≡ 300 + j = grind (arith, nat_tests) in
      let a : nat_lt x.slot 300 ≡ false = grind (arith, nat_tests) in
      let b : nat_lt x.slot 400 ≡ true = grind (arith, nat_tests) in
      let s : x.slot - 300 ≡ j = omega arith in
      rw (a, b, s, p) (key_refl r j)

  pub none_announced : (xs : List DurableCell) (r j : ℕ) → j ≤ 15 → has_row r j xs ≡ false → stored_at xs r (300 + j) ≡ None
  unfolding has_row
  none_announced [] r j few none = refl
  none_announced (x ∷ xs) r j few none = elim (cases_Bool (is_at r (300 + j) x)) [
    | inl e ↦ absurd (true_not_false _ (ap (λ b. b || has_row r j xs) (begins_announced r j x few e)) none)
    | inr e ↦ rw e (none_announced xs r j few (or_right (begins r j x) (has_row r j xs) none))
  ]

  begins_finished : (r j : ℕ) (x : DurableCell) → j ≤ 15 → stored_at all r (300 + j) ≡ None → is_at r (400 + j) x ≡ true → begins r j x ≡ true
  begins_finished r j x few first e =
      let p : x.r ≡ r = grind (arith, nat_tests) in
      let q : x.slot ≡ 400 + j = grind (arith, nat_tests) in
      let a : nat_lt x.slot 300 ≡ false = grind (arith, nat_tests) in
      let b : nat_lt x.slot 400 ≡ false = grind (arith, nat_tests) in
      let s : x.slot - 400 ≡ j = omega arith in
      rw (a, b, s, p, first) (key_refl r j)

  pub none_finished : (xs : List DurableCell) (r j : ℕ) → j ≤ 15 → stored_at all r (300 + j) ≡ None → has_row r j xs ≡ false → stored_at xs r (400 + j) ≡ None
  unfolding has_row
  none_finished [] r j few first none = refl
  none_finished (x ∷ xs) r j few first none = elim (cases_Bool (is_at r (400 + j) x)) [
    | inl e ↦ absurd (true_not_false _ (ap (λ b. b || has_row r j xs) (begins_finished r j x few first e)) none)
    | inr e ↦ rw e (none_finished xs r j few first (or_right (begins r j x) (has_row r j xs) none))
  ]
