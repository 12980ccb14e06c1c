-- The mark in front of a delta's text (this project's own format): which sites the text is for, and a digest of it. So a
-- text that is for other sites, or was changed on its way, is told before it is read.
use Rattle.std.specs.Prelude.{◌≡◌, ◌≢◌, ℕ, ◌<◌, ◌&&◌, ◌||◌, nat_le, Bool, true, List, ◌∷◌, ◌++◌, length, take, codes, Option, Some, None}
use Rattle.std.specs.List.{AllByRecursion, list_all}
use Rattle.hex.specs.Hex.{encode_lower}
use Rattle.sha2.specs.Sha256.{sha256}
use Rattle.merge_core.specs.declared.layout.RecordSpec.{RecordSpec}
use Rattle.layout_line.specs.Line.{records_text}
use Rattle.serve_engine.specs.declared.marks.MarkFault.{MarkFault}
use Rattle.serve_engine.specs.declared.marks.MarkFault.TheVariants.{NoMark, WrongGroup, OtherRecords, Damaged}

-- what a mark says: the group of sites that a text is for, the digest of their records, and that of the text
pub record Mark : Type 0 where
  pub group : List ℕ
  pub records : List ℕ
  pub checksum : List ℕ

-- a text behind its mark: each word of the mark is ended by a blank
abbrev pub with_mark : Mark → List ℕ → List ℕ
with_mark mark text = mark.group ++ 32 ∷ (mark.records ++ 32 ∷ (mark.checksum ++ 32 ∷ text))

-- bytes without a blank
abbrev pub HasNoBlank : List ℕ → Type 0
HasNoBlank word = AllByRecursion (λ b. b ≢ 32) word

-- a word of one byte at least
pub record IsWord (word : List ℕ) : Type 0 where
  pub some : 0 < length word
  pub whole : HasNoBlank word

-- a lowercase hexadecimal digit
abbrev pub is_digit : ℕ → Bool
is_digit b = (nat_le 48 b && nat_le b 57) || (nat_le 97 b && nat_le b 102)

-- a word of so many of them
pub record AreDigits (n : ℕ) (word : List ℕ) : Type 0 where
  pub counted : length word ≡ n
  pub each : list_all is_digit word ≡ true

-- a mark: any word for the group, and 16 and 8 digits
pub record IsMark (mark : Mark) : Type 0 where
  pub has_group : IsWord mark.group
  pub has_records : AreDigits 16 mark.records
  pub has_checksum : AreDigits 8 mark.checksum

-- bytes that are a text behind a mark
pub record IsMarked (bytes : List ℕ) (mark : Mark) (text : List ℕ) : Type 0 where
  pub has_mark : IsMark mark
  pub is_its : bytes ≡ with_mark mark text

-- the first so many bytes of the SHA-256 digest of a text (FIPS 180-4), as two digits each
abbrev pub first_digits : ℕ → List ℕ → List ℕ
first_digits n text = encode_lower (take n (sha256 text))

-- that of records: names, seats, homes and problems, in order, as a store's layout line has them behind its number of
-- sites. So sites of layouts that one has grown from the other have the same.
abbrev pub records_digest : List RecordSpec → List ℕ
records_digest records = first_digits 8 (records_text records)

abbrev pub text_digest : List ℕ → List ℕ
text_digest text = first_digits 4 text

-- the group's word: its name, or `-` for sites in no group
abbrev pub group_word : Option (List ℕ) → List ℕ
group_word None = codes "-"
group_word (Some name) = name

-- the mark that a site of a group with these records puts in front of a text, and wants in front of it
abbrev pub mark_of : Option (List ℕ) → List ℕ → List ℕ → Mark
mark_of group digest text = record { group = group_word group; records = digest; checksum = text_digest text }

-- the first fault of bytes that a site of a group, with records of this digest, is to take: no mark is in front of them;
-- or the mark's first word that is not as in the site's own is the group's, the records', or that of the text behind it
abbrev pub IsFault : Option (List ℕ) → List ℕ → List ℕ → MarkFault → Type 0
IsFault group digest bytes NoMark = (mark : Mark) → (text : List ℕ) → ¬ IsMarked bytes mark text
IsFault group digest bytes WrongGroup =
    (mark : Mark) × (text : List ℕ) × IsMarked bytes mark text × (mark.group ≢ group_word group)
IsFault group digest bytes OtherRecords =
    (mark : Mark) × (text : List ℕ) × IsMarked bytes mark text × (mark.group ≡ group_word group) × (mark.records ≢ digest)
IsFault group digest bytes Damaged =
    (mark : Mark) × (text : List ℕ) × IsMarked bytes mark text × (mark.group ≡ group_word group) × (mark.records ≡ digest)
    × (mark.checksum ≢ text_digest text)
