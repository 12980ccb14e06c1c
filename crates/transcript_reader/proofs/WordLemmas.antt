-- Words and numbers up to a quote: what is read is what stands there, and is read again.
use Rattle.std.proofs.Common.{◌≡◌, ℕ, zero, suc, ◌+◌, ◌<◌, ◌^◌, Bool, true, false, cond, eqb, ltb, List, [], ◌∷◌, ◌++◌, map, Option, Some, None, codes, decimal, refl, sym, ap, subst, ◌∙◌, append_assoc, append-nil, arith}
use Rattle.std.proofs.lemmas.Bool.{ne_eqb, lt-ltb, ltb-true}
use Rattle.std.proofs.lemmas.Fmt.{decimal_digit, decimal-digits_of}
use Rattle.text_parts.specs.Readers.{◌>>=◌, onto, after, number_at, short_at}
use Rattle.text_parts.proofs.NumberLaws.{number_takes, number_again, short_again}
use Rattle.transcript_reader.specs.Words.{ends_word, word_at, middle_at, last_number, last_short, last_middle, gift_at, shortage_at}
use Rattle.transcript_reader.proofs.EscapedLemmas.{is_plain, plain_front}
use Rattle.transcript_reader.proofs.HoldLemmas.{Holds, if_holds, when_holds, then_holds, literal_holds}

-- ---- words

-- a word: no byte is a blank
abbrev pub IsWord : List ℕ → Type 0
IsWord [] = Unit {0}
IsWord (b ∷ bs) = (eqb b 32 ≡ false) × IsWord bs

pub word_says : (bytes : List ℕ) → Holds (λ x. bytes ≡ x.0 ++ x.1) (word_at bytes)
word_says [] = tt
word_says (b ∷ bs) =
    let Says : List ℕ × List ℕ → Type 0 = λ x. b ∷ bs ≡ x.0 ++ x.1 in
    if_holds Says (ends_word b) (Some ([], b ∷ bs)) (onto b (word_at bs)) refl
    (then_holds (λ (x : List ℕ × List ℕ). bs ≡ x.0 ++ x.1) Says (word_at bs) (λ xs. Some (b ∷ xs.0, xs.1)) (word_says bs) (λ x same. ap (λ (t : List ℕ). b ∷ t) same))

-- a word is read again in front of a blank or a quote
pub word_again : (w : List ℕ) (b : ℕ) (rest : List ℕ) → ends_word b ≡ true → IsWord w → is_plain w ≡ true → word_at (w ++ b ∷ rest) ≡ Some (w, b ∷ rest)
word_again [] b rest ends is plain = ap (λ (t : Bool). cond t (Some ([], b ∷ rest)) (onto b (word_at rest))) ends
word_again (c ∷ cs) b rest ends is plain =
    let p = plain_front (eqb c 34) (eqb c 92) (is_plain cs) plain in
    rw (is.0, p.0) (ap (onto c) (word_again cs b rest ends is.1 p.1.1))

digits_word : (ds : List ℕ) → IsWord (map (λ d. 48 + d) ds)
digits_word [] = tt
digits_word (d ∷ ds) = (ne_eqb (48 + d) 32 (λ e. absurd (omega arith)), digits_word ds)

pub decimal_word : (n : ℕ) → n < 2 ^ 64 → IsWord (decimal n)
decimal_word zero fits = subst IsWord (sym (decimal_digit 0 (omega arith))) (refl, tt)
decimal_word (suc n) fits = subst IsWord (sym (decimal-digits_of (suc n) (omega arith) fits)) (digits_word _)

-- ---- numbers

-- a number below a limit was read
abbrev pub SaysNumber : ℕ → List ℕ → ℕ × List ℕ → Type 0
SaysNumber limit bytes x = (x.0 < limit) × (bytes ≡ decimal x.0 ++ x.1)

number_says : (bytes : List ℕ) → Holds (SaysNumber (2 ^ 64) bytes) (number_at bytes)
number_says bytes = at (number_at bytes) refl
  where
    at : (read : Option (ℕ × List ℕ)) → number_at bytes ≡ read → Holds (SaysNumber (2 ^ 64) bytes) read
    at None e = tt
    at (Some x) e = let taken = number_takes bytes x.0 x.1 e in (taken.1, taken.0)

-- .. and found to be below a smaller one
below_says : (limit : ℕ) (bytes : List ℕ) (o : Option (ℕ × List ℕ)) → Holds (SaysNumber (2 ^ 64) bytes) o
    → Holds (SaysNumber limit bytes) (o >>= λ n. cond (ltb n.0 limit) (Some n) None)
below_says limit bytes o says =
    then_holds (SaysNumber (2 ^ 64) bytes) (SaysNumber limit bytes) o (λ n. cond (ltb n.0 limit) (Some n) None) says
    (λ n it. when_holds (SaysNumber limit bytes) (ltb n.0 limit) (Some n) None (λ low. (ltb-true n.0 limit low, it.1)) (λ high. tt))

pub short_says : (bytes : List ℕ) → Holds (SaysNumber (2 ^ 16) bytes) (short_at bytes)
unfolding short_at
short_says bytes = below_says (2 ^ 16) bytes (number_at bytes) (number_says bytes)

middle_says : (bytes : List ℕ) → Holds (SaysNumber (2 ^ 32) bytes) (middle_at bytes)
unfolding middle_at
middle_says bytes = below_says (2 ^ 32) bytes (number_at bytes) (number_says bytes)

middle_again : (n : ℕ) (rest : List ℕ) → n < 2 ^ 32 → number_at (decimal n ++ rest) ≡ Some (n, rest) → middle_at (decimal n ++ rest) ≡ Some (n, rest)
unfolding middle_at
middle_again n rest low again = ap (λ (o : Option (ℕ × List ℕ)). o >>= λ m. cond (ltb m.0 (2 ^ 32)) (Some m) None) again ∙ rw (lt-ltb n (2 ^ 32) low) refl

-- ---- numbers up to the closing quote

-- the text of a last number, as it stands behind a blank
abbrev pub last_text : ℕ → List ℕ
last_text n = decimal n ++ []

abbrev pub SaysLast : ℕ → List ℕ → ℕ × List ℕ → Type 0
SaysLast limit bytes x = (x.0 < limit) × (bytes ≡ last_text x.0 ++ 34 ∷ x.1)

abbrev closed : Option (ℕ × List ℕ) → Option (ℕ × List ℕ)
closed read = read >>= λ n. after (codes "\"") n.1 >>= λ rest. Some (n.0, rest)

closed_says : (limit : ℕ) (bytes : List ℕ) (read : Option (ℕ × List ℕ)) → Holds (SaysNumber limit bytes) read → Holds (SaysLast limit bytes) (closed read)
closed_says limit bytes read says =
    then_holds (SaysNumber limit bytes) (SaysLast limit bytes) read (λ n. after (codes "\"") n.1 >>= λ rest. Some (n.0, rest)) says
    (λ n it. then_holds (λ (rest : List ℕ). n.1 ≡ 34 ∷ rest) (SaysLast limit bytes) (after (codes "\"") n.1) (λ rest. Some (n.0, rest)) (literal_holds (codes "\"") n.1)
    (λ rest e. (it.0, it.1 ∙ (ap (λ (t : List ℕ). decimal n.0 ++ t) e ∙ ap (λ (t : List ℕ). t ++ 34 ∷ rest) (sym (append-nil (decimal n.0)))))))

closed_again : (n : ℕ) (rest : List ℕ) (read : List ℕ → Option (ℕ × List ℕ)) → read (decimal n ++ 34 ∷ rest) ≡ Some (n, 34 ∷ rest) → closed (read (last_text n ++ 34 ∷ rest)) ≡ Some (n, rest)
closed_again n rest read again = ap (λ (t : List ℕ). closed (read (t ++ 34 ∷ rest))) (append-nil (decimal n)) ∙ ap closed again

pub last_number_says : (bytes : List ℕ) → Holds (SaysLast (2 ^ 64) bytes) (last_number bytes)
unfolding last_number
last_number_says bytes = closed_says (2 ^ 64) bytes (number_at bytes) (number_says bytes)

pub last_number_again : (n : ℕ) (rest : List ℕ) → n < 2 ^ 64 → last_number (last_text n ++ 34 ∷ rest) ≡ Some (n, rest)
unfolding last_number
last_number_again n rest fits = closed_again n rest number_at (number_again n (34 ∷ rest) fits refl)

pub last_short_says : (bytes : List ℕ) → Holds (SaysLast (2 ^ 16) bytes) (last_short bytes)
unfolding last_short
last_short_says bytes = closed_says (2 ^ 16) bytes (short_at bytes) (short_says bytes)

pub last_short_again : (n : ℕ) (rest : List ℕ) → n < 2 ^ 16 → last_short (last_text n ++ 34 ∷ rest) ≡ Some (n, rest)
unfolding last_short
last_short_again n rest fits = closed_again n rest short_at (short_again n (34 ∷ rest) fits refl)

last_middle_says : (bytes : List ℕ) → Holds (SaysLast (2 ^ 32) bytes) (last_middle bytes)
unfolding last_middle
last_middle_says bytes = closed_says (2 ^ 32) bytes (middle_at bytes) (middle_says bytes)

last_middle_again : (n : ℕ) (rest : List ℕ) → n < 2 ^ 32 → last_middle (last_text n ++ 34 ∷ rest) ≡ Some (n, rest)
unfolding last_middle
last_middle_again n rest fits = closed_again n rest middle_at (middle_again n (34 ∷ rest) fits (number_again n (34 ∷ rest) (omega (arith, fits)) refl))

-- ---- a last number behind a blank, and what stands in front of it

abbrev Pair : Type 0
Pair = ℕ × ℕ × List ℕ

abbrev pub SaysPair : (ℕ → List ℕ) → ℕ → ℕ → List ℕ → Pair → Type 0
SaysPair text limit limit2 bytes x = (x.0 < limit) × ((x.1 < limit2) × (bytes ≡ (text x.0 ++ 32 ∷ last_text x.1) ++ 34 ∷ x.2))

-- a text behind another one and a blank
pub spaced : (text other bytes front rest behind : List ℕ) → bytes ≡ text ++ front → front ≡ 32 ∷ rest → rest ≡ other ++ 34 ∷ behind → bytes ≡ (text ++ 32 ∷ other) ++ 34 ∷ behind
spaced text other bytes front rest behind e f g =
    e ∙ (ap (λ (t : List ℕ). text ++ t) (f ∙ ap (λ (t : List ℕ). 32 ∷ t) g) ∙ sym (append_assoc text (32 ∷ other) (34 ∷ behind)))

abbrev paired : Option (ℕ × List ℕ) → (List ℕ → Option (ℕ × List ℕ)) → Option Pair
paired read last = read >>= λ a. after (codes " ") a.1 >>= λ rest. last rest >>= λ b. Some (a.0, b.0, b.1)

paired_says : (text : ℕ → List ℕ) (limit limit2 : ℕ) (bytes : List ℕ) (read : Option (ℕ × List ℕ)) (last : List ℕ → Option (ℕ × List ℕ))
    → Holds (λ x. (x.0 < limit) × (bytes ≡ text x.0 ++ x.1)) read → ((rest : List ℕ) → Holds (SaysLast limit2 rest) (last rest)) → Holds (SaysPair text limit limit2 bytes) (paired read last)
paired_says text limit limit2 bytes read last says each =
    let Says = SaysPair text limit limit2 bytes in
    then_holds (λ (x : ℕ × List ℕ). (x.0 < limit) × (bytes ≡ text x.0 ++ x.1)) Says read (λ a. after (codes " ") a.1 >>= λ rest. last rest >>= λ b. Some (a.0, b.0, b.1)) says
    (λ a it. then_holds (λ (rest : List ℕ). a.1 ≡ 32 ∷ rest) Says (after (codes " ") a.1) (λ rest. last rest >>= λ b. Some (a.0, b.0, b.1)) (literal_holds (codes " ") a.1)
    (λ rest e. then_holds (SaysLast limit2 rest) Says (last rest) (λ b. Some (a.0, b.0, b.1)) (each rest)
    (λ b is. (it.0, (is.0, spaced (text a.0) (last_text b.0) bytes a.1 rest b.1 it.1 e is.1)))))

paired_again : (text : List ℕ) (n m : ℕ) (rest : List ℕ) (read last : List ℕ → Option (ℕ × List ℕ))
    → read (text ++ 32 ∷ (last_text m ++ 34 ∷ rest)) ≡ Some (n, 32 ∷ (last_text m ++ 34 ∷ rest)) → last (last_text m ++ 34 ∷ rest) ≡ Some (m, rest)
    → paired (read ((text ++ 32 ∷ last_text m) ++ 34 ∷ rest)) last ≡ Some (n, m, rest)
paired_again text n m rest read last one other =
    ap (λ (t : List ℕ). paired (read t) last) (append_assoc text (32 ∷ last_text m) (34 ∷ rest))
    ∙ (ap (λ (o : Option (ℕ × List ℕ)). paired o last) one ∙ ap (λ (o : Option (ℕ × List ℕ)). o >>= λ b. Some (n, b.0, b.1)) other)

pub gift_says : (bytes : List ℕ) → Holds (SaysPair decimal (2 ^ 16) (2 ^ 64) bytes) (gift_at bytes)
unfolding gift_at
gift_says bytes = paired_says decimal (2 ^ 16) (2 ^ 64) bytes (short_at bytes) last_number (short_says bytes) last_number_says

pub gift_again : (to seats : ℕ) (rest : List ℕ) → to < 2 ^ 16 → seats < 2 ^ 64 → gift_at ((decimal to ++ 32 ∷ last_text seats) ++ 34 ∷ rest) ≡ Some (to, seats, rest)
unfolding gift_at
gift_again to seats rest fits fits2 =
    paired_again (decimal to) to seats rest short_at last_number (short_again to (32 ∷ (last_text seats ++ 34 ∷ rest)) fits refl) (last_number_again seats rest fits2)

pub shortage_says : (bytes : List ℕ) → Holds (SaysPair decimal (2 ^ 64) (2 ^ 32) bytes) (shortage_at bytes)
unfolding shortage_at
shortage_says bytes = paired_says decimal (2 ^ 64) (2 ^ 32) bytes (number_at bytes) last_middle (number_says bytes) last_middle_says

pub shortage_again : (rights seats : ℕ) (rest : List ℕ) → rights < 2 ^ 64 → seats < 2 ^ 32 → shortage_at ((decimal rights ++ 32 ∷ last_text seats) ++ 34 ∷ rest) ≡ Some (rights, seats, rest)
unfolding shortage_at
shortage_again rights seats rest fits fits2 =
    paired_again (decimal rights) rights seats rest number_at last_middle (number_again rights (32 ∷ (last_text seats ++ 34 ∷ rest)) fits refl) (last_middle_again seats rest fits2)
