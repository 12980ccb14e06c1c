-- The record of a word: its name, or a number that no record has.
use Rattle.std.proofs.Common.{◌≡◌, ℕ, zero, suc, ◌<◌, ◌≤◌, ◌^◌, Bool, true, false, ◌&&◌, not, eqb, ltb, ◌==◌, List, [], ◌∷◌, ◌++◌, length, get_or, Option, Some, None, cond, decimal, nat_le, refl, sym, ap, subst, ◌∙◌, append-nil, ◌⊎◌, inl, inr, arith}
use Rattle.std.specs.List.{position, position_or_len, list_all}
use Rattle.std.specs.Str.{bytes_eq}
use Rattle.std.proofs.lemmas.Bool.{cases_lt, lt-ltb, le-ltb, eqb-true, and_parts, false_from_ne_true, cond-true, cond-false}
use Rattle.std.proofs.lemmas.List.{nil_from_length}
use Rattle.std.proofs.lemmas.List.Folds.{list_any_at}
use Rattle.std.proofs.lemmas.List.Quantifiers.{position-Some}
use Rattle.std.proofs.lemmas.Slice.Eq.{bytes_eq-Decides}
use Rattle.merge_core.specs.declared.layout.RecordSpec.{RecordSpec}
use Rattle.merge_core.specs.Layout.{LayoutState, IsLayout, is_name_byte, is_record_name, has_name, names_differ}
use Rattle.text_parts.specs.Readers.{◌>>=◌, short_at}
use Rattle.text_parts.proofs.NumberLaws.{short_again}
use Rattle.script_text.specs.Words.{short_word, has_this_name}
use Rattle.transcript_text.specs.Texts.{nameless, record_text}
use Rattle.transcript_reader.specs.Words.{ends_word, word_at, record_named, record_numbered, logged_record, record_at}
use Rattle.transcript_reader.proofs.EscapedLemmas.{is_plain, decimal_plain}
use Rattle.transcript_reader.proofs.HoldLemmas.{Holds, when_holds, then_holds}
use Rattle.transcript_reader.proofs.WordLemmas.{IsWord, SaysNumber, word_says, word_again, decimal_word, short_says}

-- ---- a number that is all of a word

short_word_again : (n : ℕ) → n < 2 ^ 16 → short_word (decimal n) ≡ Some n
short_word_again n fits =
    let read : short_at (decimal n) ≡ Some (n, []) = ap short_at (sym (append-nil (decimal n))) ∙ short_again n [] fits tt in
    ap (λ (o : Option (ℕ × List ℕ)). o >>= λ x. cond (length x.1 == 0) (Some x.0) None) read

abbrev SaysWord : List ℕ → ℕ → Type 0
SaysWord word n = (n < 2 ^ 16) × (word ≡ decimal n)

short_word_says : (word : List ℕ) → Holds (SaysWord word) (short_word word)
short_word_says word =
    then_holds (SaysNumber (2 ^ 16) word) (SaysWord word) (short_at word) (λ x. cond (eqb (length x.1) 0) (Some x.0) None) (short_says word)
    (λ x it. when_holds (SaysWord word) (eqb (length x.1) 0) (Some x.0) None
    (λ e. (it.0, it.1 ∙ (ap (λ (t : List ℕ). decimal x.0 ++ t) (nil_from_length x.1 (eqb-true (length x.1) 0 e)) ∙ append-nil (decimal x.0)))) (λ e. tt))

-- ---- names

same_bytes : (a : List ℕ) → bytes_eq a a ≡ true
same_bytes a = (bytes_eq-Decides a a).1 refl

-- the name of a record is found at its place
place_again : (records : List RecordSpec) (r : ℕ) → r < length records → names_differ records ≡ true
    → position_or_len (has_this_name (get_or records r nameless).name) records ≡ r
place_again [] r below apart = absurd (omega arith)
place_again (x ∷ xs) zero below apart = rw (same_bytes x.name) refl
place_again (x ∷ xs) (suc r) below apart =
    let parts = and_parts (not (has_name x.name xs)) (names_differ xs) apart in
    let other : bytes_eq x.name (get_or xs r nameless).name ≡ false = false_from_ne_true _ (λ same.
    let equal : x.name ≡ (get_or xs r nameless).name = (bytes_eq-Decides x.name (get_or xs r nameless).name).0 same in
    let found : has_name x.name xs ≡ true = list_any_at (λ q. bytes_eq q.name x.name) xs r nameless (omega arith) (ap (λ (n : List ℕ). bytes_eq n x.name) (sym equal) ∙ same_bytes x.name) in
    let clash : false ≡ true = ap not (sym found) ∙ parts.0 in cc) in
    let rest : position_or_len (has_this_name (get_or xs r nameless).name) xs ≡ r = place_again xs r (omega arith) parts.1 in
    rw other (omega (arith, rest))

name_word_bytes : (bs : List ℕ) → list_all is_name_byte bs ≡ true → IsWord bs
name_word_bytes [] all = tt
name_word_bytes (b ∷ bs) all =
    let parts = and_parts (is_name_byte b) (list_all is_name_byte bs) all in
    (false_from_ne_true (eqb b 32) (λ blank. let clash : is_name_byte 32 ≡ true = ap is_name_byte (sym (eqb-true b 32 blank)) ∙ parts.0 in cc), name_word_bytes bs parts.1)

other_byte : (b k : ℕ) → is_name_byte b ≡ true → is_name_byte k ≡ false → eqb b k ≡ false
other_byte b k name other = false_from_ne_true (eqb b k) (λ e.
    let clash : false ≡ true = sym other ∙ (ap is_name_byte (sym (eqb-true b k e)) ∙ name) in cc)

name_plain_bytes : (bs : List ℕ) → list_all is_name_byte bs ≡ true → is_plain bs ≡ true
name_plain_bytes [] all = refl
name_plain_bytes (b ∷ bs) all =
    let parts = and_parts (is_name_byte b) (list_all is_name_byte bs) all in
    rw (other_byte b 34 parts.0 refl, other_byte b 92 parts.0 refl) (name_plain_bytes bs parts.1)

abbrev is_lower : ℕ → Bool
is_lower b = nat_le 97 b && nat_le b 122

not_lower : (b k : ℕ) → is_lower b ≡ true → is_lower k ≡ false → eqb b k ≡ false
not_lower b k low other = false_from_ne_true (eqb b k) (λ e.
    let clash : false ≡ true = sym other ∙ (ap is_lower (sym (eqb-true b k e)) ∙ low) in cc)

pub record RecordAgain (records : List RecordSpec) (r : ℕ) : Type 0 where
  pub word : IsWord (record_text records r)
  pub plain : is_plain (record_text records r) ≡ true
  pub found : logged_record records (record_text records r) ≡ Some r

abbrev numbered_or_none : List RecordSpec → ℕ → Option ℕ
numbered_or_none records r = cond (ltb r (length records)) None (Some r)

named_again : (records : List RecordSpec) (r : ℕ) (name : List ℕ) → r < length records → is_record_name name ≡ true → position (has_this_name name) records ≡ Some r
    → IsWord name × ((is_plain name ≡ true) × (logged_record records name ≡ Some r))
named_again records r [] below is found = absurd cc
named_again records r (b ∷ bs) below is found =
    let first = and_parts (is_lower b) _ is in
    let rest = and_parts _ (list_all is_name_byte bs) first.1 in
    let question : eqb b 63 ≡ false = not_lower b 63 first.0 refl in (
      (not_lower b 32 first.0 refl, name_word_bytes bs rest.1),
      (rw (not_lower b 34 first.0 refl, not_lower b 92 first.0 refl) (name_plain_bytes bs rest.1), rw question found),
    )

-- the name of a record that is there is a word, and stands for it
pub record NameAgain (records : List RecordSpec) (r : ℕ) : Type 0 where
  pub text : record_text records r ≡ (get_or records r nameless).name
  pub place : position (has_this_name (get_or records r nameless).name) records ≡ Some r
  pub word : IsWord (get_or records r nameless).name
  pub plain : is_plain (get_or records r nameless).name ≡ true
  pub logged : logged_record records (get_or records r nameless).name ≡ Some r

pub name_again : (layout : LayoutState) → IsLayout layout → (r : ℕ) → r < length layout.records → NameAgain layout.records r
name_again layout is r below =
    let records = layout.records in
    let name = (get_or records r nameless).name in
    let place : position_or_len (has_this_name name) records ≡ r = place_again records r below is.apart in
    let found : position (has_this_name name) records ≡ Some r = rw place (cond-true (ltb r (length records)) (Some r) None (lt-ltb r (length records) below)) in
    let all = named_again records r name below (is.names r nameless below) found in
    record {
      text = cond-true (ltb r (length records)) _ _ (lt-ltb r (length records) below);
      place = found;
      word = all.0;
      plain = all.1.0;
      logged = all.1.1;
    }

pub record_again : (layout : LayoutState) → IsLayout layout → (r : ℕ) → r < 2 ^ 16 → RecordAgain layout.records r
record_again layout is r fits = at (cases_lt r (length layout.records))
  where
    records : List RecordSpec
    records = layout.records

    at : (r < length records) ⊎ (length records ≤ r) → RecordAgain records r
    at (inl below) =
        let it = name_again layout is r below in
        record {
          word = subst IsWord (sym it.text) it.word;
          plain = ap is_plain it.text ∙ it.plain;
          found = ap (logged_record records) it.text ∙ it.logged;
        }
    at (inr past) =
        let text : record_text records r ≡ 63 ∷ decimal r = cond-false (ltb r (length records)) _ _ (le-ltb r (length records) past) in
        record {
          word = subst IsWord (sym text) (refl, decimal_word r (omega (arith, fits)));
          plain = ap is_plain text ∙ decimal_plain r (omega (arith, fits));
          found = ap (logged_record records) text
              ∙ (ap (λ (o : Option ℕ). o >>= numbered_or_none records) (short_word_again r fits) ∙ cond-false (ltb r (length records)) None (Some r) (le-ltb r (length records) past));
        }

-- ---- what a word says

-- a word has the record's text
abbrev SaysRecord : List RecordSpec → List ℕ → ℕ → Type 0
SaysRecord records word r = (r < 2 ^ 16) × (word ≡ record_text records r)

-- a record that was found by a name has it
named_says : (layout : LayoutState) → IsLayout layout → (word : List ℕ) → Holds (SaysRecord layout.records word) (record_named layout.records word)
named_says layout is word = at (position (has_this_name word) layout.records) refl
  where
    at : (found : Option ℕ) → position (has_this_name word) layout.records ≡ found → Holds (SaysRecord layout.records word) found
    at None e = tt
    at (Some r) e =
        let there = position-Some (has_this_name word) layout.records r nameless e in
        let name : (get_or layout.records r nameless).name ≡ word = (bytes_eq-Decides (get_or layout.records r nameless).name word).0 there.1 in
        (omega (arith, is.few_records, there.0), sym name ∙ sym (cond-true (ltb r (length layout.records)) (get_or layout.records r nameless).name (63 ∷ decimal r) (lt-ltb r (length layout.records) there.0)))

numbered_says : (layout : LayoutState) (digits : List ℕ) → Holds (SaysRecord layout.records (63 ∷ digits)) (record_numbered layout.records digits)
numbered_says layout digits =
    then_holds (SaysWord digits) (SaysRecord layout.records (63 ∷ digits)) (short_word digits) (λ r. cond (ltb r (length layout.records)) None (Some r)) (short_word_says digits)
    (λ r it. when_holds (SaysRecord layout.records (63 ∷ digits)) (ltb r (length layout.records)) None (Some r) (λ e. tt)
    (λ e. (it.0, ap (λ (w : List ℕ). 63 ∷ w) it.1 ∙ sym (cond-false (ltb r (length layout.records)) (get_or layout.records r nameless).name (63 ∷ decimal r) e))))

logged_says : (layout : LayoutState) → IsLayout layout → (word : List ℕ) → Holds (SaysRecord layout.records word) (logged_record layout.records word)
logged_says layout is [] = named_says layout is []
logged_says layout is (b ∷ bs) =
    when_holds (SaysRecord layout.records (b ∷ bs)) (eqb b 63) (record_numbered layout.records bs) (record_named layout.records (b ∷ bs))
    (λ e. subst (λ (k : ℕ). Holds (SaysRecord layout.records (k ∷ bs)) (record_numbered layout.records bs)) (sym (eqb-true b 63 e)) (numbered_says layout bs))
    (λ e. named_says layout is (b ∷ bs))

-- ---- the record at the front

pub record_says : (layout : LayoutState) → IsLayout layout → (bytes : List ℕ) → Holds (λ x. (x.0 < 2 ^ 16) × (bytes ≡ record_text layout.records x.0 ++ x.1)) (record_at layout.records bytes)
unfolding record_at
record_says layout is bytes =
    let Says : ℕ × List ℕ → Type 0 = λ x. (x.0 < 2 ^ 16) × (bytes ≡ record_text layout.records x.0 ++ x.1) in
    then_holds (λ (w : List ℕ × List ℕ). bytes ≡ w.0 ++ w.1) Says (word_at bytes) (λ w. logged_record layout.records w.0 >>= λ r. Some (r, w.1)) (word_says bytes)
    (λ w same. then_holds (SaysRecord layout.records w.0) Says (logged_record layout.records w.0) (λ r. Some (r, w.1)) (logged_says layout is w.0)
    (λ r it. (it.0, same ∙ ap (λ (t : List ℕ). t ++ w.1) it.1)))

pub record_at_again : (layout : LayoutState) → IsLayout layout → (r b : ℕ) (rest : List ℕ) → r < 2 ^ 16 → ends_word b ≡ true
    → record_at layout.records (record_text layout.records r ++ b ∷ rest) ≡ Some (r, b ∷ rest)
unfolding record_at
record_at_again layout is r b rest fits ends =
    let records = layout.records in
    let again = record_again layout is r fits in
    let word : word_at (record_text records r ++ b ∷ rest) ≡ Some (record_text records r, b ∷ rest) = word_again (record_text records r) b rest ends again.word again.plain in
    ap (λ (o : Option (List ℕ × List ℕ)). o >>= λ w. logged_record records w.0 >>= λ x. Some (x, w.1)) word
    ∙ ap (λ (o : Option ℕ). o >>= λ x. Some (x, b ∷ rest)) again.found
