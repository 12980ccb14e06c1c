-- Sums over more sites than those at which something is added.
use Rattle.std.proofs.Common.{◌≡◌, ◌≢◌, ℕ, zero, suc, ◌≤◌, ◌⊎◌, inl, inr, cond, eqb, sym, ap, ◌∙◌, arith}
use Rattle.std.proofs.lemmas.Bool.{cases_eq, eq-eqb, ne_eqb, cond-true, cond-false}
use Rattle.merge_core.specs.Sums.{total, total_others}

-- a sum over more numbers, at which nothing is added
pub total_more : (n m : ℕ) (f : ℕ → ℕ) → n ≤ m → ((j : ℕ) → n ≤ j → f j ≡ 0) → total m f ≡ total n f
total_more n zero f more none = let same : n ≡ 0 = omega arith in ap (λ k. total k f) (sym same)
total_more n (suc m) f more none = at (cases_eq n (suc m)) (total_more n m f)
  where
    at : (n ≡ suc m) ⊎ (n ≡ suc m → ⊥) → (n ≤ m → ((j : ℕ) → n ≤ j → f j ≡ 0) → total m f ≡ total n f) → total (suc m) f ≡ total n f
    at (inl e) earlier = ap (λ k. total k f) (sym e)
    at (inr ne) earlier =
        let lower : n ≤ m = omega arith in
        omega (arith, earlier lower none, none m lower)

-- the same of the others
pub total_others_more : (n m i : ℕ) (f : ℕ → ℕ) → n ≤ m → ((j : ℕ) → n ≤ j → j ≢ i → f j ≡ 0) → total_others m i f ≡ total_others n i f
total_others_more n m i f more none = total_more n m (λ j. cond (eqb j i) 0 (f j)) more (λ j past. at j past (cases_eq j i))
  where
    at : (j : ℕ) → n ≤ j → (j ≡ i) ⊎ (j ≡ i → ⊥) → cond (eqb j i) 0 (f j) ≡ 0
    at j past (inl e) = cond-true (eqb j i) 0 (f j) (eq-eqb j i e)
    at j past (inr ne) = cond-false (eqb j i) 0 (f j) (ne_eqb j i ne) ∙ none j past ne
