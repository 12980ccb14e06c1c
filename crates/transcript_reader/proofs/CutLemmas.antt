-- Where the first byte of a kind stands.
use Rattle.std.proofs.Common.{◌≡◌, ℕ, zero, suc, ◌<◌, Bool, true, cond, ◌==◌, List, [], ◌∷◌, length, take, drop, slice_index, ◌-◌, Some, None, sym, ap, ◌∙◌, refl, arith}
use Rattle.std.proofs.lemmas.Bool.{false_from_ne_true}
use Rattle.std.proofs.lemmas.List.{take_rest}
use Rattle.text_parts.specs.Readers.{onto}
use Rattle.transcript_reader.specs.Readers.{cut_at}
use Rattle.transcript_reader.specs.Words.{ends_word, word_at}

-- the first one stands at place k
pub cut_found : (byte : ℕ) (bs : List ℕ) (k : ℕ) → k < length bs
    → ((j : ℕ) → j < k → (slice_index bs j == byte) ≡ true → ⊥) → (slice_index bs k == byte) ≡ true
    → cut_at byte bs ≡ Some (take k bs, drop (suc k) bs)
cut_found byte [] k within before here = absurd (omega arith)
cut_found byte (b ∷ bs) zero within before here = rw here refl
cut_found byte (b ∷ bs) (suc k) within before here =
    let ordinary = false_from_ne_true (b == byte) (before 0 (omega arith)) in
    let rest = cut_found byte bs k (omega arith) (λ j low. before (suc j) (omega arith)) here in
    rw ordinary (ap (onto b) rest)

-- there is none
pub no_cut : (byte : ℕ) (bs : List ℕ) → ((j : ℕ) → j < length bs → (slice_index bs j == byte) ≡ true → ⊥) → cut_at byte bs ≡ None
no_cut byte [] none = refl
no_cut byte (b ∷ bs) none =
    let ordinary = false_from_ne_true (b == byte) (none 0 (omega arith)) in
    let rest = no_cut byte bs (λ j low. none (suc j) (omega arith)) in
    rw ordinary (ap (onto b) rest)

-- ---- words

-- the first byte that ends a word stands at place k
word_cut : (bs : List ℕ) (k : ℕ) → k < length bs → ((j : ℕ) → j < k → ends_word (slice_index bs j) ≡ true → ⊥) → ends_word (slice_index bs k) ≡ true
    → word_at bs ≡ Some (take k bs, drop k bs)
word_cut [] k within before here = absurd (omega arith)
word_cut (b ∷ bs) zero within before here = ap (λ (t : Bool). cond t (Some ([], b ∷ bs)) (onto b (word_at bs))) here
word_cut (b ∷ bs) (suc k) within before here =
    let ordinary = false_from_ne_true (ends_word b) (before 0 (omega arith)) in
    let rest = word_cut bs k (omega arith) (λ j low. before (suc j) (omega arith)) here in
    ap (λ (t : Bool). cond t (Some ([], b ∷ bs)) (onto b (word_at bs))) ordinary ∙ ap (onto b) rest

-- the same, with the bytes from there on as a slice
pub word_found : (bs : List ℕ) (k : ℕ) → k < length bs → ((j : ℕ) → j < k → ends_word (slice_index bs j) ≡ true → ⊥) → ends_word (slice_index bs k) ≡ true
    → word_at bs ≡ Some (take k bs, take (length bs - k) (drop k bs))
word_found bs k within before here = word_cut bs k within before here ∙ ap (λ (t : List ℕ). Some (take k bs, t)) (sym (take_rest bs k))

-- there is none
pub no_word : (bs : List ℕ) → ((j : ℕ) → j < length bs → ends_word (slice_index bs j) ≡ true → ⊥) → word_at bs ≡ None
no_word [] none = refl
no_word (b ∷ bs) none =
    let ordinary = false_from_ne_true (ends_word b) (none 0 (omega arith)) in
    ap (λ (t : Bool). cond t (Some ([], b ∷ bs)) (onto b (word_at bs))) ordinary ∙ ap (onto b) (no_word bs (λ j low. none (suc j) (omega arith)))
