-- The words of a line, and what single words stand for (this project's own rules).
use Rattle.std.specs.Prelude.{ℕ, ◌==◌, Bool, List, [], ◌∷◌, length, if◌then◌else◌, Option, Some, None}
use Rattle.std.specs.List.{position}
use Rattle.std.specs.Str.{bytes_eq}
use Rattle.merge_core.specs.Layout.{is_record_name}
use Rattle.merge_core.specs.declared.layout.RecordSpec.{RecordSpec}
use Rattle.text_parts.specs.Readers.{◌>>=◌, number_at, short_at}

-- a byte in front of the first word, which it begins where there is none
abbrev pub onto_word : ℕ → List (List ℕ) → List (List ℕ)
onto_word b [] = (b ∷ []) ∷ []
onto_word b (w ∷ ws) = (b ∷ w) ∷ ws

-- The pieces of a line between single blanks. A blank at either end makes an empty word there, and so do two in a
-- row between them; the empty line is one empty word.
abbrev pub words_of : List ℕ → List (List ℕ)
words_of [] = [] ∷ []
words_of (b ∷ bs) = if b == 32 then [] ∷ words_of bs else onto_word b (words_of bs)

-- what was read, where nothing is left behind it
abbrev pub all_read : {A : Type 0} → Option (A × List ℕ) → Option A
all_read read = read >>= λ x. if length x.1 == 0 then Some x.0 else None

-- a number below 2 ^ 64 in decimal digits, without a sign or a leading 0
abbrev pub number_word : List ℕ → Option ℕ
number_word word = all_read (number_at word)

-- such a number below 2 ^ 16
abbrev pub short_word : List ℕ → Option ℕ
short_word word = all_read (short_at word)

-- the number that stands for every name that no record has: no layout has so many records
abbrev pub no_record : ℕ
no_record = 65535

-- the record is the one of that name
abbrev pub has_this_name : List ℕ → RecordSpec → Bool
has_this_name word r = bytes_eq r.name word

-- a record that was found, or what the word stands for where none was
abbrev pub found_or_unknown : Option ℕ → List ℕ → Option ℕ
found_or_unknown (Some place) word = Some place
found_or_unknown None word = if is_record_name word then Some no_record else None

-- the record of that name, by its place; any other word that could be a name stands for no record, and what could be
-- none is refused
abbrev pub record_word : List RecordSpec → List ℕ → Option ℕ
record_word records word = found_or_unknown (position (has_this_name word) records) word
