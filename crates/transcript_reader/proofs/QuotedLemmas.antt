-- Just one text stands in front of a closing quote.
use Rattle.std.proofs.Common.{◌≡◌, ℕ, Bool, true, false, ◌||◌, ◌==◌, eqb, List, [], ◌∷◌, ◌++◌, cond, Option, Some, None, refl, sym, ap, subst, ◌⊎◌, inl, inr}
use Rattle.std.proofs.lemmas.Bool.{cases_eq, ne_eqb}
use Rattle.text_parts.specs.Readers.{onto}
use Rattle.transcript_text.specs.Quoted.{escaped}

-- The text up to the closing quote, and the bytes behind it; the flag says that a backslash stood in front, behind which
-- only a quote or a backslash is read.
abbrev pub unescaped : Bool → List ℕ → Option (List ℕ × List ℕ)
unescaped behind [] = None
unescaped true (b ∷ bs) = cond ((b == 34) || (b == 92)) (onto b (unescaped false bs)) None
unescaped false (b ∷ bs) = cond (b == 34) (Some ([], bs)) (cond (b == 92) (unescaped true bs) (onto b (unescaped false bs)))

pub unescaped_again : (t rest : List ℕ) → unescaped false (escaped t ++ 34 ∷ rest) ≡ Some (t, rest)
unescaped_again [] rest = refl
unescaped_again (b ∷ bs) rest = at (cases_eq b 34) (cases_eq b 92) (unescaped_again bs rest)
  where
    at : (b ≡ 34) ⊎ (b ≡ 34 → ⊥) → (b ≡ 92) ⊎ (b ≡ 92 → ⊥) → unescaped false (escaped bs ++ 34 ∷ rest) ≡ Some (bs, rest) → unescaped false (escaped (b ∷ bs) ++ 34 ∷ rest) ≡ Some (b ∷ bs, rest)
    at (inl quote) other again = subst (λ (x : ℕ). unescaped false (escaped (x ∷ bs) ++ 34 ∷ rest) ≡ Some (x ∷ bs, rest)) (sym quote) (ap (onto 34) again)
    at (inr no_quote) (inl backslash) again = subst (λ (x : ℕ). unescaped false (escaped (x ∷ bs) ++ 34 ∷ rest) ≡ Some (x ∷ bs, rest)) (sym backslash) (ap (onto 92) again)
    at (inr no_quote) (inr no_backslash) again =
        let q : eqb b 34 ≡ false = ne_eqb b 34 no_quote in
        let s : eqb b 92 ≡ false = ne_eqb b 92 no_backslash in
        rw (q, s) (rw (q, s) (ap (onto b) again))
