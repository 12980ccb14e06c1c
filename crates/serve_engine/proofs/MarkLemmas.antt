-- Marks, and what stands in front of a text.
use Rattle.std.proofs.Common.{◌≡◌, ◌≢◌, ℕ, zero, suc, ◌*◌, ◌/◌, ◌%◌, ◌<◌, ◌&&◌, inl, inr, Bool, true, false, List, [], ◌∷◌, ◌++◌, length, take, slice_index, Option, refl, sym, ap, subst, ◌∙◌, arith}
use Rattle.std.specs.Prelude.{IsAscii, IsUtf8}
use Rattle.std.proofs.lemmas.Bool.Decides.{nat_tests}
use Rattle.std.proofs.lemmas.Str.{IsUtf8-from_ascii}
use Rattle.std.proofs.lemmas.Str.Ascii.{IsAscii-nil, IsAscii-cons}
use Rattle.std.specs.Int.{to_be_bytes, w32}
use Rattle.std.specs.List.{AllByRecursion, list_all}
use Rattle.std.proofs.lemmas.Bool.{and_parts, cases_lt}
use Rattle.std.proofs.lemmas.List.{length-take-le}
use Rattle.hex.specs.Hex.{encode_with, lower_digits}
use Rattle.hex.proofs.HexLemmas.{length-encode_with}
use Rattle.sha2.specs.Sha256.{digest_bytes, sha256}
use Rattle.sha2.proofs.Facts256.{length-sha256}
use Rattle.merge_core.specs.declared.layout.RecordSpec.{RecordSpec}
use Rattle.layout_line.specs.Line.{records_text}
use Rattle.serve_engine.specs.Marks.{AreDigits, HasNoBlank, IsMarked, IsWord, Mark, first_digits, group_word, is_digit, mark_of, records_digest, text_digest, with_mark}

-- a word ends at the first blank
pub one_word : (a b x y : List ℕ) → HasNoBlank a → HasNoBlank b → a ++ 32 ∷ x ≡ b ++ 32 ∷ y → (a ≡ b) × (x ≡ y)
one_word [] [] x y one two same = (refl, cc)
one_word [] (d ∷ b) x y one two same = let blank : d ≡ 32 = cc in absurd (two.0 blank)
one_word (c ∷ a) [] x y one two same = let blank : c ≡ 32 = cc in absurd (one.0 blank)
one_word (c ∷ a) (d ∷ b) x y one two same =
    let first : c ≡ d = cc in
    let behind : a ++ 32 ∷ x ≡ b ++ 32 ∷ y = cc in
    let rest = one_word a b x y one.1 two.1 behind in
    let word : a ≡ b = rest.0 in
    let all : c ∷ a ≡ d ∷ b = cc in
    (all, rest.1)

-- digits are no blanks
no_blank : (b : ℕ) → is_digit b ≡ true → b ≢ 32
no_blank b digit blank = let clash : false ≡ true = subst (λ (x : ℕ). is_digit x ≡ true) blank digit in cc

pub digits_free : (word : List ℕ) → list_all is_digit word ≡ true → HasNoBlank word
digits_free [] each = tt
digits_free (b ∷ bs) each =
    let parts = and_parts (is_digit b) (list_all is_digit bs) each in
    (no_blank b parts.0, digits_free bs parts.1)

-- a mark is its three words
abbrev mark_with : List ℕ → List ℕ → List ℕ → Mark
mark_with group records checksum = record { group = group; records = records; checksum = checksum }

pub same_mark : (m n : Mark) → m.group ≡ n.group → m.records ≡ n.records → m.checksum ≡ n.checksum → m ≡ n
same_mark m n group records checksum =
    ap (λ (w : List ℕ). mark_with w m.records m.checksum) group
    ∙ (ap (λ (w : List ℕ). mark_with n.group w m.checksum) records ∙ ap (λ (w : List ℕ). mark_with n.group n.records w) checksum)

-- bytes have one mark in front of one text
pub one_mark : (bytes : List ℕ) (m n : Mark) (s t : List ℕ) → IsMarked bytes m s → IsMarked bytes n t → (m ≡ n) × (s ≡ t)
one_mark bytes m n s t one two =
    let first = one_word m.group n.group (m.records ++ 32 ∷ (m.checksum ++ 32 ∷ s)) (n.records ++ 32 ∷ (n.checksum ++ 32 ∷ t))
    one.has_mark.has_group.whole two.has_mark.has_group.whole (sym one.is_its ∙ two.is_its) in
    let second = one_word m.records n.records (m.checksum ++ 32 ∷ s) (n.checksum ++ 32 ∷ t)
    (digits_free m.records one.has_mark.has_records.each) (digits_free n.records two.has_mark.has_records.each) first.1 in
    let third = one_word m.checksum n.checksum s t
    (digits_free m.checksum one.has_mark.has_checksum.each) (digits_free n.checksum two.has_mark.has_checksum.each) second.1 in
    (same_mark m n first.0 second.0 third.0, third.1)

-- ---- what was found in front of a text

-- behind the first word no digits
pub no_records : (bytes group rest : List ℕ) → IsWord group → bytes ≡ group ++ 32 ∷ rest → ((word more : List ℕ) → AreDigits 16 word → rest ≢ word ++ 32 ∷ more)
    → (mark : Mark) → (text : List ℕ) → ¬ IsMarked bytes mark text
no_records bytes group rest word is none mark text marked =
    let cut = one_word group mark.group rest (mark.records ++ 32 ∷ (mark.checksum ++ 32 ∷ text)) word.whole marked.has_mark.has_group.whole (sym is ∙ marked.is_its) in
    none mark.records (mark.checksum ++ 32 ∷ text) marked.has_mark.has_records cut.1

-- nor behind the second
pub no_checksum : (bytes group records rest more : List ℕ) → IsWord group → bytes ≡ group ++ 32 ∷ rest → AreDigits 16 records → rest ≡ records ++ 32 ∷ more
    → ((word text : List ℕ) → AreDigits 8 word → more ≢ word ++ 32 ∷ text) → (mark : Mark) → (text : List ℕ) → ¬ IsMarked bytes mark text
no_checksum bytes group records rest more word is digits cut none mark text marked =
    let first = one_word group mark.group rest (mark.records ++ 32 ∷ (mark.checksum ++ 32 ∷ text)) word.whole marked.has_mark.has_group.whole (sym is ∙ marked.is_its) in
    let second = one_word records mark.records more (mark.checksum ++ 32 ∷ text) (digits_free records digits.each) (digits_free mark.records marked.has_mark.has_records.each) (sym cut ∙ first.1) in
    none mark.checksum text marked.has_mark.has_checksum second.1

-- the digits that a word of this length must be
pub other_length : (bytes word rest : List ℕ) (n : ℕ) → IsWord word → bytes ≡ word ++ 32 ∷ rest → length word ≢ n
    → (other more : List ℕ) → AreDigits n other → bytes ≢ other ++ 32 ∷ more
other_length bytes word rest n is_word is differs other more digits is_other =
    let cut = one_word word other rest more is_word.whole (digits_free other digits.each) (sym is ∙ is_other) in
    differs (ap length cut.0 ∙ digits.counted)

pub no_digits : (bytes word rest : List ℕ) (n : ℕ) → IsWord word → bytes ≡ word ++ 32 ∷ rest → list_all is_digit word ≡ false
    → (other more : List ℕ) → AreDigits n other → bytes ≢ other ++ 32 ∷ more
no_digits bytes word rest n is_word is none other more digits is_other =
    let cut = one_word word other rest more is_word.whole (digits_free other digits.each) (sym is ∙ is_other) in
    let clash : false ≡ true = sym none ∙ (ap (list_all is_digit) cut.0 ∙ digits.each) in
    cc

pub no_word : (bytes : List ℕ) (n : ℕ) → 0 < n → ((word rest : List ℕ) → IsWord word → bytes ≢ word ++ 32 ∷ rest)
    → (other more : List ℕ) → AreDigits n other → bytes ≢ other ++ 32 ∷ more
no_word bytes n some none other more digits =
    none other more (record { some = subst (λ (k : ℕ). 0 < k) (sym digits.counted) some; whole = digits_free other digits.each })

-- ---- digests have digits

-- the digits of the table are those of a mark
abbrev first_pass : ℕ → Bool
first_pass zero = true
first_pass (suc n) = is_digit (slice_index lower_digits n) && first_pass n

pass_at : (n k : ℕ) → first_pass n ≡ true → k < n → is_digit (slice_index lower_digits k) ≡ true
pass_at zero k all low = absurd (omega arith)
pass_at (suc n) k all low =
    let parts = and_parts (is_digit (slice_index lower_digits n)) (first_pass n) all in
    elim (cases_lt k n) [
      | inl below ↦ pass_at n k parts.1 below
      | inr top ↦
          let e : k ≡ n = omega arith in
          rw e parts.0
    ]

digit_at : (k : ℕ) → k < 16 → is_digit (slice_index lower_digits k) ≡ true
digit_at k low = pass_at 16 k refl low

abbrev AreBytes : List ℕ → Type 0
AreBytes bytes = AllByRecursion (λ b. b < 256) bytes

both : (x y : Bool) → x ≡ true → y ≡ true → (x && y) ≡ true
both true true one two = refl
both true false one two = cc
both false y one two = cc

all_digits : (bytes : List ℕ) → AreBytes bytes → list_all is_digit (encode_with lower_digits bytes) ≡ true
unfolding encode_with
all_digits [] small = refl
all_digits (b ∷ bs) small =
    let byte : b < 256 = small.0 in
    let high : b / 16 < 16 = omega arith in
    let low : b % 16 < 16 = omega arith in
    both (is_digit (slice_index lower_digits (b / 16))) (is_digit (slice_index lower_digits (b % 16)) && list_all is_digit (encode_with lower_digits bs)) (digit_at (b / 16) high)
    (both (is_digit (slice_index lower_digits (b % 16))) (list_all is_digit (encode_with lower_digits bs)) (digit_at (b % 16) low) (all_digits bs small.1))

bytes_append : (xs ys : List ℕ) → AreBytes xs → AreBytes ys → AreBytes (xs ++ ys)
bytes_append [] ys one two = two
bytes_append (x ∷ xs) ys one two = (one.0, bytes_append xs ys one.1 two)

bytes_take : (n : ℕ) (xs : List ℕ) → AreBytes xs → AreBytes (take n xs)
bytes_take zero xs all = tt
bytes_take (suc n) [] all = tt
bytes_take (suc n) (x ∷ xs) all = (all.0, bytes_take n xs all.1)

word_bytes : (w : ℕ) → AreBytes (to_be_bytes w32 w)
word_bytes w = (omega arith, (omega arith, (omega arith, (omega arith, tt))))

digest_small : (h : List ℕ) (n : ℕ) → AreBytes (digest_bytes h n)
unfolding digest_bytes
digest_small h zero = tt
digest_small h (suc n) = bytes_append (digest_bytes h n) (to_be_bytes w32 (slice_index h n)) (digest_small h n) (word_bytes (slice_index h n))

sha_small : (m : List ℕ) → AreBytes (sha256 m)
unfolding sha256
sha_small m = digest_small _ 8

first_length : (n : ℕ) (m : List ℕ) → n < 33 → length (take n (sha256 m)) ≡ n
first_length n m few = length-take-le n (sha256 m) (omega (arith, length-sha256 m))

pub are_digits : (n : ℕ) (m : List ℕ) → n < 33 → AreDigits (2 * n) (first_digits n m)
are_digits n m few = record {
  counted = length-encode_with lower_digits (take n (sha256 m)) ∙ ap (λ (k : ℕ). 2 * k) (first_length n m few);
  each = all_digits (take n (sha256 m)) (bytes_take n (sha256 m) (sha_small m));
}

pub records_digits : (records : List RecordSpec) → AreDigits 16 (records_digest records)
records_digits records = are_digits 8 (records_text records) (omega arith)

pub text_digits : (text : List ℕ) → AreDigits 8 (text_digest text)
text_digits text = are_digits 4 text (omega arith)

-- a site's own mark is one
pub own_mark : (group : Option (List ℕ)) (records : List RecordSpec) (text : List ℕ) → IsWord (group_word group)
    → IsMarked (with_mark (mark_of group (records_digest records) text) text) (mark_of group (records_digest records) text) text
own_mark group records text word = record {
  has_mark = record { has_group = word; has_records = records_digits records; has_checksum = text_digits text };
  is_its = refl;
}

-- and its digits are text
digit_small : (b : ℕ) → is_digit b ≡ true → b < 128
digit_small b digit = elim (cases_lt b 128) [
  | inl small ↦ small
  | inr large ↦ absurd (grind (arith, nat_tests))
]

digits_ascii : (word : List ℕ) → list_all is_digit word ≡ true → IsAscii word
digits_ascii [] each = IsAscii-nil
digits_ascii (b ∷ bs) each =
    let parts = and_parts (is_digit b) (list_all is_digit bs) each in
    IsAscii-cons b bs (digit_small b parts.0) (digits_ascii bs parts.1)

pub digest_is_text : (text : List ℕ) → IsUtf8 (text_digest text)
digest_is_text text = IsUtf8-from_ascii (text_digest text) (digits_ascii (text_digest text) (text_digits text).each)
