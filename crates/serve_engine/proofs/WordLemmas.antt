-- The first word of a line.
use Rattle.std.proofs.Common.{◌≡◌, ◌≢◌, ℕ, ◌<◌, ◌==◌, false, List, [], ◌∷◌, ◌++◌, length, inl, inr, refl, sym, ap, subst, ◌∙◌, arith}
use Rattle.std.proofs.lemmas.Bool.{cases_Bool}
use Rattle.std.proofs.lemmas.Bool.Decides.{nat_tests}
use Rattle.script_text.specs.Words.{onto_word, words_of}
use Rattle.script_text.proofs.WordLemmas.{some_word}
use Rattle.serve_engine.specs.Marks.{HasNoBlank, IsWord}

-- a word in front of a blank is the first one
pub cut_front : (word rest : List ℕ) → HasNoBlank word → words_of (word ++ 32 ∷ rest) ≡ word ∷ words_of rest
cut_front [] rest free = refl
cut_front (b ∷ bs) rest free =
    let not_blank : b ≢ 32 = free.0 in
    let other : (b == 32) ≡ false = grind (arith, nat_tests) in
    rw other (ap (onto_word b) (cut_front bs rest free.1))

pub never_none : (bs : List ℕ) → words_of bs ≢ []
never_none bs = some_word (λ (ws : List (List ℕ)). ws ≢ []) (λ w ws e. cc) bs

-- a first word has no blank
onto_free : (b : ℕ) → b ≢ 32 → (vs : List (List ℕ)) (w : List ℕ) (ws : List (List ℕ)) → onto_word b vs ≡ w ∷ ws → ((v : List ℕ) (us : List (List ℕ)) → vs ≡ v ∷ us → HasNoBlank v) → HasNoBlank w
onto_free b not_blank [] w ws is rest = let e : b ∷ [] ≡ w = cc in subst (λ (x : List ℕ). HasNoBlank x) e (not_blank, tt)
onto_free b not_blank (v ∷ vs) w ws is rest = let e : b ∷ v ≡ w = cc in subst (λ (x : List ℕ). HasNoBlank x) e (not_blank, rest v vs refl)

first_free : (bs w : List ℕ) (ws : List (List ℕ)) → words_of bs ≡ w ∷ ws → HasNoBlank w
first_free [] w ws is = let e : [] ≡ w = cc in subst (λ (x : List ℕ). HasNoBlank x) e tt
first_free (b ∷ bs) w ws is = elim (cases_Bool (b == 32)) [
  | inl blank ↦
      let first : [] ∷ words_of bs ≡ w ∷ ws = rw blank at is in
      let e : [] ≡ w = cc in
      subst (λ (x : List ℕ). HasNoBlank x) e tt
  | inr other ↦
      let not_blank : b ≢ 32 = grind (arith, nat_tests) in
      onto_free b not_blank (words_of bs) w ws (rw other at is) (λ v us same. first_free bs v us same)
]

-- a line of one word
pub one_word_only : (bytes word : List ℕ) → words_of bytes ≡ word ∷ [] → (other rest : List ℕ) → IsWord other → bytes ≢ other ++ 32 ∷ rest
one_word_only bytes word is other rest is_word same =
    let two : words_of bytes ≡ other ∷ words_of rest = ap words_of same ∙ cut_front other rest is_word.whole in
    let both : word ∷ [] ≡ other ∷ words_of rest = sym is ∙ two in
    let none : words_of rest ≡ [] = cc in
    never_none rest none

-- one whose first word is empty
pub no_first_word : (bytes word behind : List ℕ) → words_of bytes ≡ word ∷ words_of behind → length word ≡ 0 → (other rest : List ℕ) → IsWord other → bytes ≢ other ++ 32 ∷ rest
no_first_word bytes word behind is none other rest is_word same =
    let two : words_of bytes ≡ other ∷ words_of rest = ap words_of same ∙ cut_front other rest is_word.whole in
    let both : word ∷ words_of behind ≡ other ∷ words_of rest = sym is ∙ two in
    let first : word ≡ other = cc in
    absurd (omega (arith, ap length first, is_word.some, none))

pub first_word : (bytes word behind : List ℕ) → words_of bytes ≡ word ∷ words_of behind → 0 < length word → IsWord word
first_word bytes word behind is some = record { some = some; whole = first_free bytes word (words_of behind) is }
