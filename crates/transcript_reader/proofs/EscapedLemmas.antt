-- Text between quotes: its parts, and bytes that need no backslash.
use Rattle.std.proofs.Common.{◌≡◌, ℕ, ◌+◌, ◌%◌, ◌<◌, ◌^◌, Bool, true, false, cond, ◌||◌, eqb, List, [], ◌∷◌, ◌++◌, decimal, refl, sym, ap, ◌∙◌, arith}
use Rattle.std.proofs.lemmas.Bool.{ne_eqb}
use Rattle.std.proofs.lemmas.Fmt.{decimal_by_steps}
use Rattle.std.proofs.lemmas.Option.{some_pair_parts}
use Rattle.text_parts.specs.Lists.{later, joined}
use Rattle.transcript_text.specs.Quoted.{escaped}
use Rattle.transcript_reader.specs.Quoted.{quoted}
use Rattle.transcript_reader.proofs.QuotedLemmas.{unescaped, unescaped_again}

pub escaped_append : (a b : List ℕ) → escaped (a ++ b) ≡ escaped a ++ escaped b
escaped_append [] b = refl
escaped_append (x ∷ xs) b = at ((eqb x 34) || (eqb x 92)) (escaped_append xs b)
  where
    at : (special : Bool) → escaped (xs ++ b) ≡ escaped xs ++ escaped b
        → cond special (92 ∷ (x ∷ escaped (xs ++ b))) (x ∷ escaped (xs ++ b)) ≡ cond special (92 ∷ (x ∷ escaped xs)) (x ∷ escaped xs) ++ escaped b
    at true same = ap (λ (t : List ℕ). 92 ∷ (x ∷ t)) same
    at false same = ap (λ (t : List ℕ). x ∷ t) same

-- just one text stands in front of a closing quote
pub quoted_once : (a x b y : List ℕ) → quoted a x ≡ quoted b y → (a ≡ b) × (x ≡ y)
quoted_once a x b y same =
    some_pair_parts a b x y (sym (unescaped_again a x) ∙ (ap (unescaped false) same ∙ unescaped_again b y))

-- ---- bytes without a quote or a backslash

abbrev pub is_plain : List ℕ → Bool
is_plain [] = true
is_plain (b ∷ bs) = cond ((eqb b 34) || (eqb b 92)) false (is_plain bs)

pub plain_front : (q s rest : Bool) → cond (q || s) false rest ≡ true → (q ≡ false) × ((s ≡ false) × (rest ≡ true))
plain_front true s rest e = absurd cc
plain_front false true rest e = absurd cc
plain_front false false rest e = (refl, (refl, e))

pub plain_escaped : (t : List ℕ) → is_plain t ≡ true → escaped t ≡ t
plain_escaped [] plain = refl
plain_escaped (b ∷ bs) plain =
    let p = plain_front (eqb b 34) (eqb b 92) (is_plain bs) plain in
    rw (p.0, p.1.0) (ap (λ (t : List ℕ). b ∷ t) (plain_escaped bs p.1.1))

pub plain_quoted : (t rest : List ℕ) → is_plain t ≡ true → quoted t rest ≡ t ++ 34 ∷ rest
plain_quoted t rest plain = ap (λ (x : List ℕ). x ++ 34 ∷ rest) (plain_escaped t plain)

pub plain_append : (a b : List ℕ) → is_plain a ≡ true → is_plain b ≡ true → is_plain (a ++ b) ≡ true
plain_append [] b one other = other
plain_append (x ∷ xs) b one other =
    let p = plain_front (eqb x 34) (eqb x 92) (is_plain xs) one in
    rw (p.0, p.1.0) (plain_append xs b p.1.1 other)

digit_plain : (n : ℕ) → n < 10 → is_plain ((48 + n) ∷ []) ≡ true
digit_plain n low =
    let q : eqb (48 + n) 34 ≡ false = ne_eqb (48 + n) 34 (λ e. omega arith) in
    let s : eqb (48 + n) 92 ≡ false = ne_eqb (48 + n) 92 (λ e. omega arith) in
    rw (q, s) refl

pub decimal_plain : (n : ℕ) → n < 2 ^ 64 → is_plain (decimal n) ≡ true
decimal_plain n fits =
    decimal_by_steps (λ n ds. is_plain ds ≡ true) digit_plain (λ n ds high front. plain_append ds ((48 + n % 10) ∷ []) front (digit_plain (n % 10) (omega arith))) n fits

-- a number in front of plain bytes
pub number_plain : (n : ℕ) (rest : List ℕ) → n < 2 ^ 64 → is_plain rest ≡ true → is_plain (decimal n ++ rest) ≡ true
number_plain n rest fits plain = plain_append (decimal n) rest (decimal_plain n fits) plain

pub escaped_decimal : (n : ℕ) → n < 2 ^ 64 → escaped (decimal n) ≡ decimal n
escaped_decimal n fits = plain_escaped (decimal n) (decimal_plain n fits)

-- ---- lists

escaped_later : {A : Type 0} (text : A → List ℕ) (xs : List A) → later (λ x. escaped (text x)) xs ≡ escaped (later text xs)
escaped_later text [] = refl
escaped_later text (x ∷ xs) =
    ap (λ (t : List ℕ). 44 ∷ t) (ap (λ (t : List ℕ). escaped (text x) ++ t) (escaped_later text xs) ∙ sym (escaped_append (text x) (later text xs)))

pub escaped_joined : {A : Type 0} (text : A → List ℕ) (xs : List A) → joined (λ x. escaped (text x)) xs ≡ escaped (joined text xs)
escaped_joined text [] = refl
escaped_joined text (x ∷ xs) =
    ap (λ (t : List ℕ). escaped (text x) ++ t) (escaped_later text xs) ∙ sym (escaped_append (text x) (later text xs))
