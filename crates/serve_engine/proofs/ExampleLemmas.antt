-- Marks that are written out.
use Rattle.std.proofs.Common.{◌≡◌, ◌≢◌, ℕ, ◌<◌, ◌==◌, Bool, true, false, not, List, [], ◌∷◌, ◌++◌, length, take, codes, Some, refl, sym, ap, subst, ◌∙◌, arith}
use Rattle.std.specs.List.{list_all}
use Rattle.std.proofs.lemmas.Bool.{and_parts}
use Rattle.std.proofs.lemmas.Bool.Decides.{nat_tests}
use Rattle.hex.specs.Hex.{encode_lower, encode_with}
use Rattle.sha2.proofs.Facts256.{digest_of_abc_256}
use Rattle.script_text.specs.Words.{words_of}
use Rattle.serve_engine.specs.Marks.{HasNoBlank, IsMark, IsMarked, Mark, first_digits, is_digit, mark_of, text_digest}
use Rattle.serve_engine.proofs.MarkLemmas.{digits_free}
use Rattle.serve_engine.proofs.WordLemmas.{cut_front, never_none}

-- the words of bytes that are a text behind a mark
words_in : (bytes : List ℕ) (mark : Mark) (text : List ℕ) → IsMarked bytes mark text → words_of bytes ≡ mark.group ∷ (mark.records ∷ (mark.checksum ∷ words_of text))
words_in bytes mark text marked =
    ap words_of marked.is_its
    ∙ (cut_front mark.group (mark.records ++ 32 ∷ (mark.checksum ++ 32 ∷ text)) marked.has_mark.has_group.whole
    ∙ ap (λ (ws : List (List ℕ)). mark.group ∷ ws) (cut_front mark.records (mark.checksum ++ 32 ∷ text) (digits_free mark.records marked.has_mark.has_records.each)
    ∙ ap (λ (ws : List (List ℕ)). mark.records ∷ ws) (cut_front mark.checksum text (digits_free mark.checksum marked.has_mark.has_checksum.each))))

-- bytes of one word, or of three
pub one_alone : (bytes word : List ℕ) → words_of bytes ≡ word ∷ [] → (mark : Mark) → (text : List ℕ) → ¬ IsMarked bytes mark text
one_alone bytes word is mark text marked =
    let both : word ∷ [] ≡ mark.group ∷ (mark.records ∷ (mark.checksum ∷ words_of text)) = sym is ∙ words_in bytes mark text marked in
    cc

pub three_alone : (bytes a b c : List ℕ) → words_of bytes ≡ a ∷ (b ∷ (c ∷ [])) → (mark : Mark) → (text : List ℕ) → ¬ IsMarked bytes mark text
three_alone bytes a b c is mark text marked =
    let both : a ∷ (b ∷ (c ∷ [])) ≡ mark.group ∷ (mark.records ∷ (mark.checksum ∷ words_of text)) = sym is ∙ words_in bytes mark text marked in
    let none : words_of text ≡ [] = cc in
    never_none text none

-- bytes of which one word is no mark's
pub empty_group : (bytes b c : List ℕ) (ws : List (List ℕ)) → words_of bytes ≡ [] ∷ (b ∷ (c ∷ ws)) → (mark : Mark) → (text : List ℕ) → ¬ IsMarked bytes mark text
empty_group bytes b c ws is mark text marked =
    let both : [] ∷ (b ∷ (c ∷ ws)) ≡ mark.group ∷ (mark.records ∷ (mark.checksum ∷ words_of text)) = sym is ∙ words_in bytes mark text marked in
    let first : [] ≡ mark.group = cc in
    absurd (omega (arith, ap length first, marked.has_mark.has_group.some))

pub other_number : (bytes a b c : List ℕ) (ws : List (List ℕ)) → words_of bytes ≡ a ∷ (b ∷ (c ∷ ws)) → length b ≢ 16 → (mark : Mark) → (text : List ℕ) → ¬ IsMarked bytes mark text
other_number bytes a b c ws is differs mark text marked =
    let both : a ∷ (b ∷ (c ∷ ws)) ≡ mark.group ∷ (mark.records ∷ (mark.checksum ∷ words_of text)) = sym is ∙ words_in bytes mark text marked in
    let second : b ≡ mark.records = cc in
    differs (ap length second ∙ marked.has_mark.has_records.counted)

pub other_count : (bytes a b c : List ℕ) (ws : List (List ℕ)) → words_of bytes ≡ a ∷ (b ∷ (c ∷ ws)) → length c ≢ 8 → (mark : Mark) → (text : List ℕ) → ¬ IsMarked bytes mark text
other_count bytes a b c ws is differs mark text marked =
    let both : a ∷ (b ∷ (c ∷ ws)) ≡ mark.group ∷ (mark.records ∷ (mark.checksum ∷ words_of text)) = sym is ∙ words_in bytes mark text marked in
    let third : c ≡ mark.checksum = cc in
    differs (ap length third ∙ marked.has_mark.has_checksum.counted)

pub other_digits : (bytes a b c : List ℕ) (ws : List (List ℕ)) → words_of bytes ≡ a ∷ (b ∷ (c ∷ ws)) → list_all is_digit b ≡ false → (mark : Mark) → (text : List ℕ) → ¬ IsMarked bytes mark text
other_digits bytes a b c ws is none mark text marked =
    let both : a ∷ (b ∷ (c ∷ ws)) ≡ mark.group ∷ (mark.records ∷ (mark.checksum ∷ words_of text)) = sym is ∙ words_in bytes mark text marked in
    let second : b ≡ mark.records = cc in
    let clash : false ≡ true = sym none ∙ (ap (list_all is_digit) second ∙ marked.has_mark.has_records.each) in
    cc

-- words that are a mark's
no_blank_by_test : (word : List ℕ) → list_all (λ b. not (b == 32)) word ≡ true → HasNoBlank word
no_blank_by_test [] test = tt
no_blank_by_test (b ∷ bs) test =
    let parts = and_parts (not (b == 32)) (list_all (λ c. not (c == 32)) bs) test in
    (apart b (b == 32) refl parts.0, no_blank_by_test bs parts.1)
  where
    apart : (c : ℕ) (x : Bool) → (c == 32) ≡ x → not x ≡ true → c ≢ 32
    apart c true is clash same = cc
    apart c false is fine same = let yes : (c == 32) ≡ true = grind (arith, nat_tests) in let clash : false ≡ true = sym is ∙ yes in cc

pub written_mark : (group records checksum : List ℕ) → 0 < length group → list_all (λ b. not (b == 32)) group ≡ true → length records ≡ 16 → list_all is_digit records ≡ true
    → length checksum ≡ 8 → list_all is_digit checksum ≡ true → IsMark (record { group = group; records = records; checksum = checksum })
written_mark group records checksum some word long digits eight sum = record {
  has_group = record { some = some; whole = no_blank_by_test group word };
  has_records = record { counted = long; each = digits };
  has_checksum = record { counted = eight; each = sum };
}

-- digests of the standard's example
pub four_of_abc : text_digest (codes "abc") ≡ codes "ba7816bf"
unfolding encode_with
four_of_abc = ap (λ (d : List ℕ). encode_lower (take 4 d)) digest_of_abc_256

pub eight_of_abc : first_digits 8 (codes "abc") ≡ codes "ba7816bf8f01cfea"
unfolding encode_with
eight_of_abc = ap (λ (d : List ℕ). encode_lower (take 8 d)) digest_of_abc_256

-- the last byte of a word of eight
abbrev last_of : List ℕ → ℕ
last_of (a ∷ b ∷ c ∷ d ∷ e ∷ f ∷ g ∷ h ∷ rest) = h
last_of other = 0

pub not_of_abc : codes "ba7816be" ≢ text_digest (codes "abc")
not_of_abc same = let last : 101 ≡ 102 = ap last_of (same ∙ four_of_abc) in absurd (omega (arith, last))

abbrev first_of : List ℕ → ℕ
first_of [] = 0
first_of (b ∷ bs) = b

pub other_first : (a b : ℕ) (xs ys : List ℕ) → a ≢ b → a ∷ xs ≢ b ∷ ys
other_first a b xs ys differs same = differs (ap first_of same)

-- a site's own mark
pub own_abc : IsMarked (codes "payroll 0123456789abcdef ba7816bf abc") (mark_of (Some (codes "payroll")) (codes "0123456789abcdef") (codes "abc")) (codes "abc")
own_abc =
    let P : List ℕ → Type 0 = λ sum. IsMarked (codes "payroll 0123456789abcdef ba7816bf abc") (record { group = codes "payroll"; records = codes "0123456789abcdef"; checksum = sum }) (codes "abc") in
    subst P (sym four_of_abc)
    (record { has_mark = written_mark (codes "payroll") (codes "0123456789abcdef") (codes "ba7816bf") (omega arith) refl refl refl refl refl; is_its = refl })
