-- Books of the deltas of one site.
use Rattle.std.proofs.Common.{◌≡◌, ℕ, ◌+◌, ◌<◌, ◌≤◌, ◌⊎◌, inl, inr, cond, eqb, true, false, List, [], ◌∷◌, ◌++◌, length, take, get_or, sym, ap, subst, ◌∙◌, arith}
use Rattle.std.specs.List.{AllByRecursion}
use Rattle.std.proofs.lemmas.Bool.{cases_eq, cases_Bool, eq-eqb, cond-true, cond-false}
use Rattle.std.proofs.lemmas.List.{take_more}
use Rattle.merge_core.specs.Delta.{DeltaState}
use Rattle.merge_core.specs.Book.{BookState, book_shape, counter_of}
use Rattle.merge_core.specs.Changes.{JoinsRows, JoinsAll}
use Rattle.merge_core.specs.Naming.{shown_by}
use Rattle.merge_core.specs.Layout.{Shape}
use Rattle.merge_core.proofs.KnownLemmas.{greatest_shown-push}
use Rattle.rebuild_laws.specs.Groups.{IsTeller}
use Rattle.site_rebuild.specs.Rebuilt.{of_site}

-- one delta more, of the site or of another one
of_site_more : (j : ℕ) (ds : List DeltaState) (d : DeltaState) → eqb d.from j ≡ true → of_site j (ds ++ d ∷ []) ≡ of_site j ds ++ d ∷ []
of_site_more j [] d is = cond-true (eqb d.from j) (d ∷ []) [] is
of_site_more j (e ∷ es) d is = at (of_site_more j es d is) (cases_Bool (eqb e.from j))
  where
    at : of_site j (es ++ d ∷ []) ≡ of_site j es ++ d ∷ [] → (eqb e.from j ≡ true) ⊎ (eqb e.from j ≡ false) → cond (eqb e.from j) (e ∷ of_site j (es ++ d ∷ [])) (of_site j (es ++ d ∷ [])) ≡ cond (eqb e.from j) (e ∷ of_site j es) (of_site j es) ++ d ∷ []
    at rest (inl f) =
        cond-true (eqb e.from j) (e ∷ of_site j (es ++ d ∷ [])) (of_site j (es ++ d ∷ [])) f
        ∙ (ap (λ (xs : List DeltaState). e ∷ xs) rest
        ∙ ap (λ (xs : List DeltaState). xs ++ d ∷ []) (sym (cond-true (eqb e.from j) (e ∷ of_site j es) (of_site j es) f)))
    at rest (inr f) =
        cond-false (eqb e.from j) (e ∷ of_site j (es ++ d ∷ [])) (of_site j (es ++ d ∷ [])) f
        ∙ (rest
        ∙ ap (λ (xs : List DeltaState). xs ++ d ∷ []) (sym (cond-false (eqb e.from j) (e ∷ of_site j es) (of_site j es) f)))

of_site_same : (j : ℕ) (ds : List DeltaState) (d : DeltaState) → eqb d.from j ≡ false → of_site j (ds ++ d ∷ []) ≡ of_site j ds
of_site_same j [] d other = cond-false (eqb d.from j) (d ∷ []) [] other
of_site_same j (e ∷ es) d other =
    ap (λ (xs : List DeltaState). cond (eqb e.from j) (e ∷ xs) xs) (of_site_same j es d other)

pub joined_more : (j : ℕ) (start old new : BookState) (ds : List DeltaState) (d : DeltaState) → eqb d.from j ≡ true → JoinsRows old new d.rows → JoinsAll start old (of_site j ds) → JoinsAll start new (of_site j (ds ++ d ∷ []))
joined_more j start old new ds d is joins before =
    subst (λ (xs : List DeltaState). JoinsAll start new xs) (sym (of_site_more j ds d is))
    (record {
      shape = joins.shape ∙ before.shape;
      counters = λ r s cell.
          let shown : shown_by (book_shape old) d.rows r s cell ≡ shown_by (book_shape start) d.rows r s cell = ap (λ (x : Shape). shown_by x d.rows r s cell) before.shape in
          omega (arith, before.counters r s cell, joins.counters r s cell, greatest_shown-push (book_shape start) (counter_of start r s cell) (of_site j ds) d r s cell, shown);
    })

pub joined_same : (j : ℕ) (start old : BookState) (ds : List DeltaState) (d : DeltaState) → eqb d.from j ≡ false → JoinsAll start old (of_site j ds) → JoinsAll start old (of_site j (ds ++ d ∷ []))
joined_same j start old ds d other before =
    subst (λ (xs : List DeltaState). JoinsAll start old xs) (sym (of_site_same j ds d other)) before

-- what holds of all deltas holds of those of one site
pub all_of_site : (P : DeltaState → Type 0) (j : ℕ) (ds : List DeltaState) → AllByRecursion P ds → AllByRecursion P (of_site j ds)
all_of_site P j [] all = tt
all_of_site P j (d ∷ ds) all = at (cases_Bool (eqb d.from j)) (all_of_site P j ds all.1)
  where
    at : (eqb d.from j ≡ true) ⊎ (eqb d.from j ≡ false) → AllByRecursion P (of_site j ds) → AllByRecursion P (cond (eqb d.from j) (d ∷ of_site j ds) (of_site j ds))
    at (inl e) rest = subst (AllByRecursion P) (sym (cond-true (eqb d.from j) (d ∷ of_site j ds) (of_site j ds) e)) (all.0, rest)
    at (inr e) rest = subst (AllByRecursion P) (sym (cond-false (eqb d.from j) (d ∷ of_site j ds) (of_site j ds) e)) rest

-- .. and one of them is of this site where one of all is
pub teller_of_site : (j : ℕ) (ds : List DeltaState) → IsTeller j ds → IsTeller j (of_site j ds)
teller_of_site j [] out = elim out [ ]
teller_of_site j (d ∷ ds) (inl here) = subst (IsTeller j) (sym (cond-true (eqb d.from j) (d ∷ of_site j ds) (of_site j ds) (eq-eqb d.from j here))) (inl here)
teller_of_site j (d ∷ ds) (inr later) = at (cases_Bool (eqb d.from j)) (teller_of_site j ds later)
  where
    at : (eqb d.from j ≡ true) ⊎ (eqb d.from j ≡ false) → IsTeller j (of_site j ds) → IsTeller j (cond (eqb d.from j) (d ∷ of_site j ds) (of_site j ds))
    at (inl e) rest = subst (IsTeller j) (sym (cond-true (eqb d.from j) (d ∷ of_site j ds) (of_site j ds) e)) (inr rest)
    at (inr e) rest = subst (IsTeller j) (sym (cond-false (eqb d.from j) (d ∷ of_site j ds) (of_site j ds) e)) rest

-- the deltas up to the next one
pub taken_more : (ds : List DeltaState) (k : ℕ) (d : DeltaState) → k < length ds → d ≡ get_or ds k d → take (k + 1) ds ≡ take k ds ++ d ∷ []
taken_more ds k d below read = rw read (take_more ds k d below)

-- one record more
pub shown_turn : (f g : ℕ → ℕ) (n : ℕ) → ((r : ℕ) → r < n → f r ≤ g r) → f n ≤ g n → (r : ℕ) → r < n + 1 → f r ≤ g r
shown_turn f g n before here r below = at (cases_eq r n)
  where
    at : (r ≡ n) ⊎ (r ≡ n → ⊥) → f r ≤ g r
    at (inl e) = subst (λ (k : ℕ). f k ≤ g k) (sym e) here
    at (inr ne) = before r (omega arith)
