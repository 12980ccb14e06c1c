-- Readers of small parts of a canonical text: each gives the value at the front and the bytes behind it, or
-- nothing where no value stands there. That they take exactly the texts of their values is a law of src/laws.rt.
use Rattle.std.specs.Prelude.{ℕ, ◌+◌, ◌-◌, ◌*◌, ◌^◌, ◌≡◌, false, zero, suc, List, [], ◌∷◌, ◌==◌, nat_lt, if◌then◌else◌, Option, Some, None, option_and_then, Result, Ok, Err}
use Rattle.std.specs.Char.{is_ascii_digit}
use Rattle.text_parts.specs.declared.unread.Unread.{Unread}
use Rattle.text_parts.specs.declared.unread.Unread.TheVariants.{Refused, Memory}

infixl 10 ◌>>=◌
abbrev pub ◌>>=◌ : {A B : Type 0} → Option A → (A → Option B) → Option B
o >>= f = option_and_then f o

-- a refusal says that there is no reading
abbrev pub Fails : {Y : Type 0} → Unread → Option Y → Type 0
Fails Refused read = read ≡ None
Fails Memory read = Unit {0}

-- what a reader of the code answered, its value seen by view, is what the reading gives, unless memory ran out
abbrev pub Gives : {X Y : Type 0} → (X → Y) → Result X Unread → Option Y → Type 0
Gives view (Ok x) read = read ≡ Some (view x)
Gives view (Err e) read = Fails e read

-- the bytes behind a literal that stands at the front
abbrev pub after : List ℕ → List ℕ → Option (List ℕ)
after [] bytes = Some bytes
after (c ∷ cs) [] = None
after (c ∷ cs) (b ∷ bs) = if b == c then after cs bs else None

-- the number that began as n and goes on with the digits at the front; none from 2 ^ 64 on
unfoldable pub digits_at : ℕ → List ℕ → Option (ℕ × List ℕ)
digits_at n [] = Some (n, [])
digits_at n (b ∷ bs) = if is_ascii_digit b then (if nat_lt (n * 10 + (b - 48)) (2 ^ 64) then digits_at (n * 10 + (b - 48)) bs else None) else Some (n, b ∷ bs)

-- a number below 2 ^ 64 in decimal digits; behind a leading 0 it ends
unfoldable pub number_at : List ℕ → Option (ℕ × List ℕ)
number_at [] = None
number_at (b ∷ bs) = if b == 48 then Some (0, bs) else (if is_ascii_digit b then digits_at (b - 48) bs else None)

-- what follows a number is no further digit
abbrev pub NoDigit : List ℕ → Type 0
NoDigit [] = Unit {0}
NoDigit (b ∷ bs) = is_ascii_digit b ≡ false

-- a number below 2 ^ 16
unfoldable pub short_at : List ℕ → Option (ℕ × List ℕ)
short_at bytes = do
  n ← number_at bytes
  if nat_lt n.0 (2 ^ 16) then Some n else None

-- an element in front of those that are read behind it
abbrev pub onto : {A : Type 0} → A → Option (List A × List ℕ) → Option (List A × List ℕ)
onto x read = read >>= λ xs. Some (x ∷ xs.0, xs.1)

-- at most k further elements, each after a comma
unfoldable pub later_at : {A : Type 0} → (List ℕ → Option (A × List ℕ)) → ℕ → List ℕ → Option (List A × List ℕ)
later_at one zero bytes = Some ([], bytes)
later_at one (suc k) [] = Some ([], [])
later_at one (suc k) (b ∷ bs) = if b == 44 then (one bs >>= λ x. onto x.0 (later_at one k x.1)) else Some ([], b ∷ bs)

-- one element, and at most k further ones
unfoldable pub joined_at : {A : Type 0} → (List ℕ → Option (A × List ℕ)) → ℕ → List ℕ → Option (List A × List ℕ)
joined_at one k bytes = one bytes >>= λ x. onto x.0 (later_at one k x.1)
