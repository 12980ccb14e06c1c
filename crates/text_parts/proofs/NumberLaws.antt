-- Numbers in decimal digits: steps of a loop over the digits, and that exactly a number's own text is taken.
use Rattle.std.proofs.Common.{◌≡◌, ℕ, zero, suc, ◌+◌, ◌-◌, ◌*◌, ◌/◌, ◌%◌, ◌^◌, ◌<◌, ◌≤◌, Bool, true, false, cond, ltb, eqb, List, [], ◌∷◌, ◌++◌, length, get_or, take, drop, Option, Some, None, decimal, refl, sym, ap, ◌∙◌, append_assoc, arith, ◌⊎◌, inl, inr}
use Rattle.std.specs.Char.{is_ascii_digit}
use Rattle.std.proofs.lemmas.Bool.{ltb-true, lt-ltb, eqb-true, eqb-false, ne_eqb}
use Rattle.std.proofs.lemmas.Bool.Decides.{nat_tests}
use Rattle.std.proofs.lemmas.Option.{none-some, cond_some, some_pair_parts}
use Rattle.std.proofs.lemmas.List.{at_drop_more, at_drop_all, take_rest, drop_all}
use Rattle.std.proofs.lemmas.Fmt.{decimal_digit, decimal_step, decimal_by_steps}
use Rattle.text_parts.specs.Readers.{NoDigit, digits_at, number_at, short_at}
use Rattle.text_parts.proofs.LiteralLaws.{cond_taken, bind_some}

-- ---- a loop over the digits

-- a byte at place i, and what is behind it
step : (n i : ℕ) (bytes : List ℕ) → i < length bytes → digits_at n (drop i bytes) ≡ cond (is_ascii_digit (get_or bytes i 0)) (cond (ltb (n * 10 + (get_or bytes i 0 - 48)) (2 ^ 64)) (digits_at (n * 10 + (get_or bytes i 0 - 48)) (drop (i + 1) bytes)) None) (Some (n, get_or bytes i 0 ∷ drop (i + 1) bytes))
unfolding digits_at
step n i bytes inside = at_drop_more (digits_at n) bytes i 0 inside

-- no digit: the number has ended
pub stops : (first n i : ℕ) (bytes : List ℕ) → i < length bytes → is_ascii_digit (get_or bytes i 0) ≡ false → digits_at n (drop i bytes) ≡ digits_at first bytes → digits_at first bytes ≡ Some (n, take (length bytes - i) (drop i bytes))
stops first n i bytes inside other so_far =
    let here : drop i bytes ≡ get_or bytes i 0 ∷ drop (i + 1) bytes = at_drop_more (λ (xs : List ℕ). xs) bytes i 0 inside in
    let ended : digits_at n (drop i bytes) ≡ Some (n, get_or bytes i 0 ∷ drop (i + 1) bytes) = step n i bytes inside ∙ rw other refl in
    sym so_far ∙ ended ∙ ap (λ (xs : List ℕ). Some (n, xs)) (sym here ∙ sym (take_rest bytes i))

none_since : {A B : Type 0} (b : Bool) (x : A) (o : Option B) → None ≡ cond b (Some x) None → cond b o None ≡ None
none_since true x o e = absurd (none-some x e)
none_since false x o e = refl

some_since : {A B : Type 0} (b : Bool) (x y : A) (o : Option B) → Some y ≡ cond b (Some x) None → (cond b o None ≡ o) × (y ≡ x)
some_since true x y o e = (refl, cc)
some_since false x y o e = absurd cc

-- a digit for which there is no room
pub overflows : (first n i : ℕ) (bytes : List ℕ) → i < length bytes → is_ascii_digit (get_or bytes i 0) ≡ true → None ≡ cond (ltb (n * 10 + (get_or bytes i 0 - 48)) (2 ^ 64)) (Some (n * 10 + (get_or bytes i 0 - 48))) None → digits_at n (drop i bytes) ≡ digits_at first bytes → digits_at first bytes ≡ None
overflows first n i bytes inside digit full so_far =
    sym so_far ∙ step n i bytes inside ∙ rw digit (none_since (ltb (n * 10 + (get_or bytes i 0 - 48)) (2 ^ 64)) (n * 10 + (get_or bytes i 0 - 48)) (digits_at (n * 10 + (get_or bytes i 0 - 48)) (drop (i + 1) bytes)) full)

-- a digit more
pub goes_on : (first n i more : ℕ) (bytes : List ℕ) → i < length bytes → is_ascii_digit (get_or bytes i 0) ≡ true → Some more ≡ cond (ltb (n * 10 + (get_or bytes i 0 - 48)) (2 ^ 64)) (Some (n * 10 + (get_or bytes i 0 - 48))) None → digits_at n (drop i bytes) ≡ digits_at first bytes → digits_at more (drop (i + 1) bytes) ≡ digits_at first bytes
goes_on first n i more bytes inside digit room so_far =
    let parts = some_since (ltb (n * 10 + (get_or bytes i 0 - 48)) (2 ^ 64)) (n * 10 + (get_or bytes i 0 - 48)) more (digits_at (n * 10 + (get_or bytes i 0 - 48)) (drop (i + 1) bytes)) room in
    let one : digits_at n (drop i bytes) ≡ digits_at more (drop (i + 1) bytes) = step n i bytes inside ∙ rw digit (parts.0 ∙ ap (λ (k : ℕ). digits_at k (drop (i + 1) bytes)) (sym parts.1)) in
    sym one ∙ so_far

-- no byte is left
pub ends : (first n i : ℕ) (bytes : List ℕ) → length bytes ≤ i → digits_at n (drop i bytes) ≡ digits_at first bytes → digits_at first bytes ≡ Some (n, take (length bytes - length bytes) (drop (length bytes) bytes))
unfolding digits_at
ends first n i bytes past so_far =
    let all : digits_at n (drop i bytes) ≡ Some (n, []) = at_drop_all (digits_at n) bytes i past in
    let rest : take (length bytes - length bytes) (drop (length bytes) bytes) ≡ [] = take_rest bytes (length bytes) ∙ drop_all (length bytes) bytes (omega arith) in
    sym so_far ∙ all ∙ ap (λ (xs : List ℕ). Some (n, xs)) (sym rest)

-- ---- exactly a number's own text is taken

digit_range : (b : ℕ) → is_ascii_digit b ≡ true → (48 ≤ b) × (b ≤ 57)
digit_range b e = (grind (arith, nat_tests), grind (arith, nat_tests))

is_digit : (b : ℕ) → 48 ≤ b → b ≤ 57 → is_ascii_digit b ≡ true
is_digit b low high = grind (arith, nat_tests)

-- the text of a number and a digit behind it
more_text : (n b : ℕ) (bs : List ℕ) → 0 < n → 48 ≤ b → b ≤ 57 → n * 10 + (b - 48) < 2 ^ 64 → decimal n ++ (b ∷ bs) ≡ decimal (n * 10 + (b - 48)) ++ bs
more_text n b bs some low high fits =
    let k = n * 10 + (b - 48) in
    let front : k / 10 ≡ n = omega arith in
    let last : 48 + k % 10 ≡ b = omega arith in
    let split : decimal k ≡ decimal n ++ (b ∷ []) = decimal_step k (omega arith) fits ∙ rw (front, last) refl in
    sym (append_assoc (decimal n) (b ∷ []) bs) ∙ ap (λ (ds : List ℕ). ds ++ bs) (sym split)

digit_taken : (b : Bool) (n m b0 : ℕ) (o : Option (ℕ × List ℕ)) (bs rest : List ℕ) → cond b o (Some (n, b0 ∷ bs)) ≡ Some (m, rest) → ((b ≡ true) × (o ≡ Some (m, rest))) ⊎ ((n ≡ m) × (b0 ∷ bs ≡ rest))
digit_taken true n m b0 o bs rest e = inl (refl, e)
digit_taken false n m b0 o bs rest e = inr (some_pair_parts n m (b0 ∷ bs) rest e)

digits_take : (n : ℕ) (bytes : List ℕ) (m : ℕ) (rest : List ℕ) → 0 < n → n < 2 ^ 64 → digits_at n bytes ≡ Some (m, rest) → (decimal n ++ bytes ≡ decimal m ++ rest) × (m < 2 ^ 64)
unfolding digits_at
digits_take n [] m rest some fits e =
    let parts = some_pair_parts n m [] rest e in
    (cc, omega (arith, parts.0))
digits_take n (b ∷ bs) m rest some fits e =
    elim (digit_taken (is_ascii_digit b) n m b _ bs rest e) [
      | inl more ↦
          let range = digit_range b more.0 in
          let room = cond_taken (ltb (n * 10 + (b - 48)) (2 ^ 64)) _ (m, rest) more.1 in
          let below = ltb-true _ _ room.0 in
          let tail = digits_take (n * 10 + (b - 48)) bs m rest (omega arith) below room.1 in
          (more_text n b bs some range.0 range.1 below ∙ tail.0, tail.1)
      | inr same ↦ (cc, omega (arith, same.0))
    ]

zero_taken : (b : Bool) (bs : List ℕ) (o : Option (ℕ × List ℕ)) (m : ℕ) (rest : List ℕ) → cond b (Some (0, bs)) o ≡ Some (m, rest) → ((b ≡ true) × (0 ≡ m) × (bs ≡ rest)) ⊎ ((b ≡ false) × (o ≡ Some (m, rest)))
zero_taken true bs o m rest e = let parts = some_pair_parts 0 m bs rest e in inl (refl, parts.0, parts.1)
zero_taken false bs o m rest e = inr (refl, e)

-- what is taken is the text of the number
pub number_takes : (bytes : List ℕ) (m : ℕ) (rest : List ℕ) → number_at bytes ≡ Some (m, rest) → (bytes ≡ decimal m ++ rest) × (m < 2 ^ 64)
unfolding number_at
number_takes [] m rest e = absurd (none-some (m, rest) e)
number_takes (b ∷ bs) m rest e =
    elim (zero_taken (eqb b 48) bs _ m rest e) [
      | inl zero_is ↦
          let head = eqb-true b 48 zero_is.0 in
          let text : decimal m ≡ 48 ∷ [] = rw (← zero_is.1) (decimal_digit 0 (omega arith)) in
          (rw (head, text, zero_is.2) refl, omega (arith, zero_is.1))
      | inr more ↦
          let digit = cond_taken (is_ascii_digit b) (digits_at (b - 48) bs) (m, rest) more.1 in
          let range = digit_range b digit.0 in
          let other : b ≡ 48 → ⊥ = eqb-false b 48 more.0 in
          let below : b - 48 < 10 = omega arith in
          let tail = digits_take (b - 48) bs m rest (omega arith) (omega arith) digit.1 in
          let head : decimal (b - 48) ≡ b ∷ [] = decimal_digit (b - 48) below ∙ ap (λ (d : ℕ). d ∷ []) (omega arith) in
          (ap (λ (ds : List ℕ). ds ++ bs) (sym head) ∙ tail.0, tail.1)
    ]

-- behind the text of a number the reading of digits goes on
abbrev GoesOn : ℕ → List ℕ → Type 0
GoesOn n ds = 0 < n → n < 2 ^ 64 → (t : List ℕ) → number_at (ds ++ t) ≡ digits_at n t

one_digit : (n : ℕ) → n < 10 → GoesOn n ((48 + n) ∷ [])
unfolding number_at
one_digit n low some fits t =
    let other : eqb (48 + n) 48 ≡ false = ne_eqb (48 + n) 48 (λ e. omega arith) in
    let digit : is_ascii_digit (48 + n) ≡ true = is_digit (48 + n) (omega arith) (omega arith) in
    let same : 48 + n - 48 ≡ n = omega arith in
    rw (other, digit, same) refl

more_digits : (n : ℕ) (ds : List ℕ) → 10 ≤ n → GoesOn (n / 10) ds → GoesOn n (ds ++ ((48 + n % 10) ∷ []))
unfolding digits_at
more_digits n ds high front some fits t =
    let digit : is_ascii_digit (48 + n % 10) ≡ true = is_digit (48 + n % 10) (omega arith) (omega arith) in
    let same : n / 10 * 10 + (48 + n % 10 - 48) ≡ n = omega arith in
    let room : ltb n (2 ^ 64) ≡ true = lt-ltb n (2 ^ 64) fits in
    ap number_at (append_assoc ds ((48 + n % 10) ∷ []) t) ∙ front (omega arith) (omega arith) ((48 + n % 10) ∷ t) ∙ rw (digit, same, room) refl

digits_end : (n : ℕ) (rest : List ℕ) → NoDigit rest → digits_at n rest ≡ Some (n, rest)
unfolding digits_at
digits_end n [] apart = refl
digits_end n (b ∷ bs) apart = rw apart refl

-- the text of a number is taken again, where no further digit follows
pub number_again : (m : ℕ) (rest : List ℕ) → m < 2 ^ 64 → NoDigit rest → number_at (decimal m ++ rest) ≡ Some (m, rest)
unfolding number_at
number_again zero rest fits apart = ap (λ (ds : List ℕ). number_at (ds ++ rest)) (decimal_digit 0 (omega arith))
number_again (suc m) rest fits apart =
    decimal_by_steps GoesOn one_digit more_digits (suc m) fits (omega arith) fits rest ∙ digits_end (suc m) rest apart

-- ---- numbers below 2 ^ 16

pub short_takes : (bytes : List ℕ) (m : ℕ) (rest : List ℕ) → short_at bytes ≡ Some (m, rest) → bytes ≡ decimal m ++ rest
unfolding short_at
short_takes bytes m rest e =
    let read = bind_some (number_at bytes) (λ n. cond (ltb n.0 (2 ^ 16)) (Some n) None) (m, rest) e in
    let small = cond_some (ltb read.0.0 (2 ^ 16)) read.0 (m, rest) read.2 in
    (number_takes bytes m rest (read.1 ∙ ap (λ (x : ℕ × List ℕ). Some x) small.1)).0

pub short_again : (m : ℕ) (rest : List ℕ) → m < 2 ^ 16 → NoDigit rest → short_at (decimal m ++ rest) ≡ Some (m, rest)
unfolding short_at
short_again m rest small apart =
    let room : ltb m (2 ^ 16) ≡ true = lt-ltb m (2 ^ 16) small in
    rw (number_again m rest (omega arith) apart, room) refl
