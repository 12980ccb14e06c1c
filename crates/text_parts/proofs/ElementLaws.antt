-- Lists of elements with commas between them, whatever reads an element: steps of a loop over them, and that
-- exactly the text of the list is taken.
use Rattle.std.proofs.Common.{◌≡◌, ℕ, zero, suc, ◌+◌, ◌-◌, ◌<◌, ◌≤◌, Bool, true, false, cond, eqb, List, [], ◌∷◌, ◌++◌, length, Option, Some, None, codes, refl, sym, ap, ◌∙◌, append_assoc, append-nil, ◌⊎◌, inl, inr, arith}
use Rattle.std.specs.List.{AllByRecursion}
use Rattle.std.proofs.lemmas.Bool.{eqb-true}
use Rattle.std.proofs.lemmas.Option.{none-some, same_Some, some_pair_parts}
use Rattle.text_parts.specs.Lists.{later, joined}
use Rattle.text_parts.specs.Readers.{◌>>=◌, Fails, onto, after, later_at, joined_at}
use Rattle.text_parts.specs.declared.unread.Unread.{Unread}
use Rattle.text_parts.specs.declared.unread.Unread.TheVariants.{Refused, Memory}
use Rattle.text_parts.proofs.LiteralLaws.{bind_some}

-- ---- a loop over the elements

-- what was read before, and what is still read
abbrev pub with_front : {A : Type 0} → List A → Option (List A × List ℕ) → Option (List A × List ℕ)
with_front front read = read >>= λ xs. Some (front ++ xs.0, xs.1)

regroup : {A : Type 0} (front : List A) (x : A) (read : Option (List A × List ℕ)) → with_front front (onto x read) ≡ with_front (front ++ x ∷ []) read
regroup front x (Some xs) = simp append_assoc
regroup front x None = refl

-- what follows a comma, or no comma
comma_stops : {A : Type 0} (one : List ℕ → Option (A × List ℕ)) (k : ℕ) (bytes : List ℕ) → after (codes ",") bytes ≡ None → later_at one k bytes ≡ Some ([], bytes)
unfolding later_at
comma_stops one zero bytes none = refl
comma_stops one (suc k) [] none = refl
comma_stops one (suc k) (b ∷ bs) none = stopped (eqb b 44) none
  where
    stopped : (comma : Bool) → cond comma (Some bs) None ≡ None → cond comma (one bs >>= λ x. onto x.0 (later_at one k x.1)) (Some ([], b ∷ bs)) ≡ Some ([], b ∷ bs)
    stopped true e = absurd (none-some bs (sym e))
    stopped false e = refl

comma_goes : {A : Type 0} (one : List ℕ → Option (A × List ℕ)) (k : ℕ) (bytes tail : List ℕ) → after (codes ",") bytes ≡ Some tail → later_at one (suc k) bytes ≡ (one tail >>= λ x. onto x.0 (later_at one k x.1))
unfolding later_at
comma_goes one k [] tail some = absurd (none-some tail some)
comma_goes one k (b ∷ bs) tail some = goes (eqb b 44) some
  where
    goes : (comma : Bool) → cond comma (Some bs) None ≡ Some tail → cond comma (one bs >>= λ x. onto x.0 (later_at one k x.1)) (Some ([], b ∷ bs)) ≡ (one tail >>= λ x. onto x.0 (later_at one k x.1))
    goes true e = ap (λ (ds : List ℕ). one ds >>= λ x. onto x.0 (later_at one k x.1)) (same_Some bs tail e)
    goes false e = absurd (none-some tail e)

-- no comma: the list has ended
pub stops : {A : Type 0} (one : List ℕ → Option (A × List ℕ)) (front : List A) (k : ℕ) (bytes : List ℕ) (total : Option (List A × List ℕ)) → after (codes ",") bytes ≡ None → with_front front (later_at one k bytes) ≡ total → total ≡ Some (front, bytes)
stops {A} one front k bytes total none so_far =
    let ended : with_front front (later_at one k bytes) ≡ Some (front, bytes) = rw (comma_stops one k bytes none) (ap (λ (xs : List A). Some (xs, bytes)) (append-nil front)) in
    sym so_far ∙ ended

-- behind the comma stands no element, or memory ran out
pub fails : {A : Type 0} (e : Unread) (one : List ℕ → Option (A × List ℕ)) (front : List A) (count i : ℕ) (bytes tail : List ℕ) (total : Option (List A × List ℕ)) → i < count → after (codes ",") bytes ≡ Some tail → Fails e (one tail) → with_front front (later_at one (count - i) bytes) ≡ total → Fails e total
fails Memory one front count i bytes tail total inside some none so_far = tt
fails Refused one front count i bytes tail total inside some none so_far =
    let k : count - i ≡ suc (count - (i + 1)) = omega arith in
    let failed : with_front front (later_at one (count - i) bytes) ≡ None = rw (k, comma_goes one (count - (i + 1)) bytes tail some, none) refl in
    sym so_far ∙ failed

-- an element more
pub goes_on : {A : Type 0} (one : List ℕ → Option (A × List ℕ)) (front : List A) (count i : ℕ) (bytes tail : List ℕ) (x : A) (behind : List ℕ) (total : Option (List A × List ℕ)) → i < count → after (codes ",") bytes ≡ Some tail → one tail ≡ Some (x, behind) → with_front front (later_at one (count - i) bytes) ≡ total → with_front (front ++ x ∷ []) (later_at one (count - (i + 1)) behind) ≡ total
goes_on one front count i bytes tail x behind total inside some read so_far =
    let k : count - i ≡ suc (count - (i + 1)) = omega arith in
    let more : with_front front (later_at one (count - i) bytes) ≡ with_front (front ++ x ∷ []) (later_at one (count - (i + 1)) behind) = rw (k, comma_goes one (count - (i + 1)) bytes tail some, read) (regroup front x (later_at one (count - (i + 1)) behind)) in
    sym more ∙ so_far

-- as many as there may be
pub is_done : {A : Type 0} (one : List ℕ → Option (A × List ℕ)) (front : List A) (count i : ℕ) (bytes : List ℕ) (total : Option (List A × List ℕ)) → count ≤ i → with_front front (later_at one (count - i) bytes) ≡ total → total ≡ Some (front, bytes)
unfolding later_at
is_done {A} one front count i bytes total past so_far =
    let k : count - i ≡ 0 = omega arith in
    let ended : with_front front (later_at one (count - i) bytes) ≡ Some (front, bytes) = rw k (ap (λ (xs : List A). Some (xs, bytes)) (append-nil front)) in
    sym so_far ∙ ended

-- ---- exactly the text of the list is taken

onto_parts : {A : Type 0} (x : A) (read : Option (List A × List ℕ)) (xs : List A) (rest : List ℕ) → onto x read ≡ Some (xs, rest) → (ys : List A) × (read ≡ Some (ys, rest)) × (x ∷ ys ≡ xs)
onto_parts x (Some r) xs rest e =
    let parts = some_pair_parts (x ∷ r.0) xs r.1 rest e in
    (r.0, ap (λ (s : List ℕ). Some (r.0, s)) parts.1, parts.0)
onto_parts x None xs rest e = absurd (none-some (xs, rest) e)

-- the reader takes nothing but texts of elements
abbrev pub TakesTexts : {A : Type 0} → (A → List ℕ) → (List ℕ → Option (A × List ℕ)) → Type 0
TakesTexts {A} text one = (bytes : List ℕ) (x : A) (rest : List ℕ) → one bytes ≡ Some (x, rest) → bytes ≡ text x ++ rest

later_takes : {A : Type 0} (text : A → List ℕ) (one : List ℕ → Option (A × List ℕ)) → TakesTexts text one → (k : ℕ) (bytes : List ℕ) (xs : List A) (rest : List ℕ) → later_at one k bytes ≡ Some (xs, rest) → bytes ≡ later text xs ++ rest
unfolding later_at
later_takes text one takes zero bytes xs rest e = let parts = some_pair_parts [] xs bytes rest e in rw (← parts.0, ← parts.1) refl
later_takes text one takes (suc k) [] xs rest e = let parts = some_pair_parts [] xs [] rest e in rw (← parts.0, ← parts.1) refl
later_takes {A} text one takes (suc k) (b ∷ bs) xs rest e =
    elim (comma_taken (eqb b 44) (one bs >>= λ x. onto x.0 (later_at one k x.1)) (b ∷ bs) xs rest e) [
      | inl more ↦
          let first = bind_some (one bs) (λ x. onto x.0 (later_at one k x.1)) (xs, rest) more.1 in
          let others = onto_parts first.0.0 (later_at one k first.0.1) xs rest first.2 in
          let tail : bs ≡ text first.0.0 ++ (later text others.0 ++ rest) = takes bs first.0.0 first.0.1 first.1 ∙ ap (λ (s : List ℕ). text first.0.0 ++ s) (later_takes text one takes k first.0.1 others.0 rest others.1) in
          let comma = eqb-true b 44 more.0 in
          rw (comma, ← others.2) (ap (λ (s : List ℕ). 44 ∷ s) (tail ∙ sym (append_assoc (text first.0.0) (later text others.0) rest)))
      | inr same ↦ rw (← same.0, ← same.1) refl
    ]
  where
    comma_taken : (comma : Bool) (o : Option (List A × List ℕ)) (all : List ℕ) (ys : List A) (r : List ℕ) → cond comma o (Some ([], all)) ≡ Some (ys, r) → ((comma ≡ true) × (o ≡ Some (ys, r))) ⊎ (([] ≡ ys) × (all ≡ r))
    comma_taken true o all ys r h = inl (refl, h)
    comma_taken false o all ys r h = inr (some_pair_parts [] ys all r h)

-- what is taken is the text of the list
pub joined_takes : {A : Type 0} (text : A → List ℕ) (one : List ℕ → Option (A × List ℕ)) → TakesTexts text one → (k : ℕ) → TakesTexts (joined text) (joined_at one k)
unfolding joined_at
joined_takes text one takes k bytes xs rest e =
    let first = bind_some (one bytes) (λ x. onto x.0 (later_at one k x.1)) (xs, rest) e in
    let others = onto_parts first.0.0 (later_at one k first.0.1) xs rest first.2 in
    rw (← others.2) (takes bytes first.0.0 first.0.1 first.1 ∙ ap (λ (s : List ℕ). text first.0.0 ++ s) (later_takes text one takes k first.0.1 others.0 rest others.1) ∙ sym (append_assoc (text first.0.0) (later text others.0) rest))

-- the reader takes the text of each element that fits again, whatever follows that stands apart from it
abbrev pub TakesAgain : {A : Type 0} → (A → List ℕ) → (A → Type 0) → (List ℕ → Type 0) → (List ℕ → Option (A × List ℕ)) → Type 0
TakesAgain {A} text Fits Apart one = (x : A) (rest : List ℕ) → Fits x → Apart rest → one (text x ++ rest) ≡ Some (x, rest)

later_again : {A : Type 0} (text : A → List ℕ) (Fits : A → Type 0) (Apart : List ℕ → Type 0) (one : List ℕ → Option (A × List ℕ)) → TakesAgain text Fits Apart one → ((s : List ℕ) → Apart (44 ∷ s)) → (k : ℕ) (xs : List A) (rest : List ℕ) → length xs ≤ k → AllByRecursion Fits xs → Apart rest → after (codes ",") rest ≡ None → later_at one k (later text xs ++ rest) ≡ Some (xs, rest)
later_again text Fits Apart one again comma k [] rest room fits apart none = comma_stops one k rest none
later_again text Fits Apart one again comma zero (x ∷ xs) rest room fits apart none = absurd (omega arith)
later_again {A} text Fits Apart one again comma (suc k) (x ∷ xs) rest room fits apart none =
    let tail = (text x ++ later text xs) ++ rest in
    let regrouped : tail ≡ text x ++ (later text xs ++ rest) = append_assoc (text x) (later text xs) rest in
    let first : one tail ≡ Some (x, later text xs ++ rest) = ap one regrouped ∙ again x (later text xs ++ rest) fits.0 (apart_later xs) in
    let others = later_again text Fits Apart one again comma k xs rest (omega arith) fits.1 apart none in
    comma_goes one k (44 ∷ tail) tail refl ∙ rw (first, others) refl
  where
    apart_later : (ys : List A) → Apart (later text ys ++ rest)
    apart_later [] = apart
    apart_later (y ∷ ys) = comma ((text y ++ later text ys) ++ rest)

-- the text of a list is taken again, where no comma follows
pub joined_again : {A : Type 0} (text : A → List ℕ) (Fits : A → Type 0) (Apart : List ℕ → Type 0) (one : List ℕ → Option (A × List ℕ)) → TakesAgain text Fits Apart one → ((s : List ℕ) → Apart (44 ∷ s)) → (k : ℕ) (x : A) (xs : List A) (rest : List ℕ) → length xs ≤ k → AllByRecursion Fits (x ∷ xs) → Apart rest → after (codes ",") rest ≡ None → joined_at one k (joined text (x ∷ xs) ++ rest) ≡ Some (x ∷ xs, rest)
unfolding joined_at
joined_again {A} text Fits Apart one again comma k x xs rest room fits apart none =
    let regrouped : joined text (x ∷ xs) ++ rest ≡ text x ++ (later text xs ++ rest) = append_assoc (text x) (later text xs) rest in
    let first : one (joined text (x ∷ xs) ++ rest) ≡ Some (x, later text xs ++ rest) = ap one regrouped ∙ again x (later text xs ++ rest) fits.0 (apart_later xs) in
    rw (first, later_again text Fits Apart one again comma k xs rest room fits.1 apart none) refl
  where
    apart_later : (ys : List A) → Apart (later text ys ++ rest)
    apart_later [] = apart
    apart_later (y ∷ ys) = comma ((text y ++ later text ys) ++ rest)
