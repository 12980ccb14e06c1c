-- Where the first line of some bytes ends, and what comes behind their last one.
use Rattle.std.proofs.Common.{◌≡◌, ℕ, zero, suc, Bool, ◌+◌, ◌<◌, ◌≤◌, true, false, ◌==◌, List, [], ◌∷◌, ◌++◌, length, take, drop, slice_index, refl, ap, ◌∙◌, arith}
use Rattle.std.proofs.lemmas.Bool.{false_from_ne_true}
use Rattle.text_input.specs.Lines.{lines_of, onto_first, HasNoLf}

-- the first LF stands at place k
pub first_line : (bs : List ℕ) (k : ℕ) → k < length bs
    → ((j : ℕ) → j < k → (slice_index bs j == 10) ≡ true → ⊥) → (slice_index bs k == 10) ≡ true
    → lines_of bs ≡ take k bs ∷ lines_of (drop (suc k) bs)
first_line [] k within before here = absurd (omega arith)
first_line (b ∷ bs) zero within before here = rw here refl
first_line (b ∷ bs) (suc k) within before here =
    let ordinary = false_from_ne_true (b == 10) (before 0 (omega arith)) in
    let rest = first_line bs k (omega arith) (λ j low. before (suc j) (omega arith)) here in
    rw ordinary (ap (onto_first b) rest)

-- there is no LF
pub only_line : (b : ℕ) (bs : List ℕ)
    → ((j : ℕ) → j < length (b ∷ bs) → (slice_index (b ∷ bs) j == 10) ≡ true → ⊥)
    → lines_of (b ∷ bs) ≡ (b ∷ bs) ∷ []
only_line b [] none = rw (false_from_ne_true (b == 10) (none 0 (omega arith))) refl
only_line b (c ∷ cs) none =
    let ordinary = false_from_ne_true (b == 10) (none 0 (omega arith)) in
    let rest = only_line c cs (λ j low. none (suc j) (omega arith)) in
    rw ordinary (ap (onto_first b) rest)

-- the same for bytes that are only known to be some
pub only_line_of : (bs : List ℕ) → 0 < length bs
    → ((j : ℕ) → j < length bs → (slice_index bs j == 10) ≡ true → ⊥) → lines_of bs ≡ bs ∷ []
only_line_of [] some none = absurd (omega arith)
only_line_of (b ∷ bs) some none = only_line b bs none

-- a byte of some line goes in front of the first line alone
onto_some : (b : ℕ) (front : List (List ℕ)) (back : List (List ℕ)) → 0 < length front → onto_first b (front ++ back) ≡ onto_first b front ++ back
onto_some b [] back some = absurd (omega arith)
onto_some b (l ∷ ls) back some = refl

one_more : (b : ℕ) (bs : List ℕ) → 0 < length (lines_of bs) → 0 < length (lines_of (b ∷ bs))
one_more b bs some = at (b == 10) refl
  where
    onto : (ls : List (List ℕ)) → 0 < length ls → 0 < length (onto_first b ls)
    onto [] some_lines = absurd (omega (arith, some_lines))
    onto (l ∷ ls) some_lines = omega arith

    at : (test : Bool) → (b == 10) ≡ test → 0 < length (lines_of (b ∷ bs))
    at true is = rw is (omega arith)
    at false is = rw is (onto (lines_of bs) some)

some_line : (before : List ℕ) → 0 < length (lines_of (before ++ 10 ∷ []))
some_line [] = omega arith
some_line (b ∷ bs) = one_more b (bs ++ 10 ∷ []) (some_line bs)

split_onto : (b : ℕ) (whole front back : List ℕ) → 0 < length (lines_of front) → lines_of whole ≡ lines_of front ++ lines_of back
    → lines_of (b ∷ whole) ≡ lines_of (b ∷ front) ++ lines_of back
split_onto b whole front back some split = at (b == 10) refl
  where
    at : (test : Bool) → (b == 10) ≡ test → lines_of (b ∷ whole) ≡ lines_of (b ∷ front) ++ lines_of back
    at true is = rw is (ap (λ (ls : List (List ℕ)). [] ∷ ls) split)
    at false is = rw is (ap (onto_first b) split ∙ onto_some b (lines_of front) (lines_of back) some)

-- behind an LF the lines begin anew
pub lines_behind : (before more : List ℕ) → lines_of (before ++ 10 ∷ more) ≡ lines_of (before ++ 10 ∷ []) ++ lines_of more
lines_behind [] more = refl
lines_behind (b ∷ bs) more = split_onto b (bs ++ 10 ∷ more) (bs ++ 10 ∷ []) more (some_line bs) (lines_behind bs more)

bounded_onto : (b : ℕ) (bs : List ℕ) → length (lines_of bs) ≤ length bs → length (lines_of (b ∷ bs)) ≤ length bs + 1
bounded_onto b bs few = at (b == 10) refl
  where
    onto : (ls : List (List ℕ)) → length ls ≤ length bs → length (onto_first b ls) ≤ length bs + 1
    onto [] few_lines = omega arith
    onto (l ∷ ls) few_lines = omega (arith, few_lines)

    at : (test : Bool) → (b == 10) ≡ test → length (lines_of (b ∷ bs)) ≤ length bs + 1
    at true is = rw is (omega (arith, few))
    at false is = rw is (onto (lines_of bs) few)

-- there are no more lines than bytes
pub lines_bounded : (bs : List ℕ) → length (lines_of bs) ≤ length bs
lines_bounded [] = omega arith
lines_bounded (b ∷ bs) = omega (arith, bounded_onto b bs (lines_bounded bs))

-- bytes without an LF behind bytes without one
pub no_lf_behind : (front back : List ℕ) → HasNoLf front → HasNoLf back → HasNoLf (front ++ back)
no_lf_behind [] back none more = more
no_lf_behind (b ∷ bs) back none more = onto (no_lf_behind bs back (λ j low. none (suc j) (omega (arith, low))) more)
  where
    onto : HasNoLf (bs ++ back) → HasNoLf ((b ∷ bs) ++ back)
    onto rest zero within = none 0 (omega arith)
    onto rest (suc i) within = rest i (omega (arith, within))
