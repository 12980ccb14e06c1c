-- Where the first word of a line ends.
use Rattle.std.proofs.Common.{◌≡◌, ◌+◌, ◌-◌, ◌∙◌, ℕ, zero, suc, ◌<◌, Bool, true, false, cond, ◌==◌, None, List, [], ◌∷◌, ◌++◌, length, take, drop, slice_index, refl, sym, ap, arith, take_all}
use Rattle.std.proofs.lemmas.Bool.{false_from_ne_true, eqb-true}
use Rattle.std.proofs.lemmas.List.{length-drop}
use Rattle.merge_core.specs.declared.layout.RecordSpec.{RecordSpec}
use Rattle.script_text.specs.Words.{words_of, onto_word}
use Rattle.script_text.specs.Asks.{record_in, holder_in, gift_in}

-- the first blank stands at place k
pub first_word : (bs : List ℕ) (k : ℕ) → k < length bs
    → ((j : ℕ) → j < k → (slice_index bs j == 32) ≡ true → ⊥) → (slice_index bs k == 32) ≡ true
    → words_of bs ≡ take k bs ∷ words_of (drop (suc k) bs)
first_word [] k within before here = absurd (omega arith)
first_word (b ∷ bs) zero within before here = rw here refl
first_word (b ∷ bs) (suc k) within before here =
    let ordinary = false_from_ne_true (b == 32) (before 0 (omega arith)) in
    let rest = first_word bs k (omega arith) (λ j low. before (suc j) (omega arith)) here in
    rw ordinary (ap (onto_word b) rest)

-- the same, with what stands behind the blank as a slice
pub first_slice : (bs : List ℕ) (k : ℕ) → k < length bs
    → ((j : ℕ) → j < k → (slice_index bs j == 32) ≡ true → ⊥) → (slice_index bs k == 32) ≡ true
    → words_of bs ≡ take k bs ∷ words_of (take (length bs - (k + 1)) (drop (k + 1) bs))
first_slice bs k within before here =
    let whole : take (length bs - (k + 1)) (drop (k + 1) bs) ≡ drop (k + 1) bs = take_all _ _ (omega (arith, length-drop (k + 1) bs)) in
    let next : k + 1 ≡ suc k = omega arith in
    first_word bs k within before here ∙ ap (λ rest. take k bs ∷ words_of rest) (ap (λ n. drop n bs) (sym next) ∙ sym whole)

-- there is no blank
pub only_word : (bs : List ℕ)
    → ((j : ℕ) → j < length bs → (slice_index bs j == 32) ≡ true → ⊥) → words_of bs ≡ bs ∷ []
only_word [] none = refl
only_word (b ∷ bs) none =
    let ordinary = false_from_ne_true (b == 32) (none 0 (omega arith)) in
    let rest = only_word bs (λ j low. none (suc j) (omega arith)) in
    rw ordinary (ap (onto_word b) rest)

-- the line is its first word, the blank, and what stands behind it
pub cut_at : (bs : List ℕ) (k : ℕ) → k < length bs → (slice_index bs k == 32) ≡ true
    → bs ≡ take k bs ++ 32 ∷ drop (suc k) bs
cut_at [] k within here = absurd (omega arith)
cut_at (b ∷ bs) zero within here = ap (λ (c : ℕ). c ∷ bs) (eqb-true b 32 here)
cut_at (b ∷ bs) (suc k) within here = ap (λ (cs : List ℕ). b ∷ cs) (cut_at bs k (omega arith) here)

-- there is always a word
begins : (P : List (List ℕ) → Type 0) → ((w : List ℕ) (ws : List (List ℕ)) → P (w ∷ ws)) → (b : ℕ) (ws : List (List ℕ)) → P (onto_word b ws)
begins P first b [] = first (b ∷ []) []
begins P first b (w ∷ ws) = first (b ∷ w) ws

pub some_word : (P : List (List ℕ) → Type 0) → ((w : List ℕ) (ws : List (List ℕ)) → P (w ∷ ws)) → (bs : List ℕ) → P (words_of bs)
some_word P first [] = first [] []
some_word P first (b ∷ bs) = cases (b == 32)
  where
    cases : (blank : Bool) → P (cond blank ([] ∷ words_of bs) (onto_word b (words_of bs)))
    cases true = first [] (words_of bs)
    cases false = begins P first b (words_of bs)

-- a word too many
pub record_and_more : (records : List RecordSpec) (words name rest : List ℕ) → words_of words ≡ name ∷ words_of rest → None ≡ record_in records (words_of words)
record_and_more records words name rest first =
    rw first (some_word (λ ws. None ≡ record_in records (name ∷ ws)) (λ w ws. refl) rest)

pub holder_and_more : (records : List RecordSpec) (words name behind holder rest : List ℕ) → words_of words ≡ name ∷ words_of behind → words_of behind ≡ holder ∷ words_of rest → None ≡ holder_in records (words_of words)
holder_and_more records words name behind holder rest first second =
    rw (first, second) (some_word (λ ws. None ≡ holder_in records (name ∷ holder ∷ ws)) (λ w ws. refl) rest)

pub gift_and_more : (records : List RecordSpec) (words name behind site last seats rest : List ℕ) → words_of words ≡ name ∷ words_of behind → words_of behind ≡ site ∷ words_of last → words_of last ≡ seats ∷ words_of rest → None ≡ gift_in records (words_of words)
gift_and_more records words name behind site last seats rest first second third =
    rw (first, second, third) (some_word (λ ws. None ≡ gift_in records (name ∷ site ∷ seats ∷ ws)) (λ w ws. refl) rest)
