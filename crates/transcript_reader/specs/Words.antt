-- Words and numbers of calls and replies between quotes, read off the front: none of their bytes has a backslash in front. For
-- private clauses: that each text is read as what it was written for is proved in proofs/.
use Rattle.std.specs.Prelude.{ℕ, ◌^◌, Bool, ◌==◌, ◌||◌, nat_lt, List, [], ◌∷◌, length, codes, if◌then◌else◌, Option, Some, None}
use Rattle.std.specs.List.{position}
use Rattle.merge_core.specs.declared.layout.RecordSpec.{RecordSpec}
use Rattle.text_parts.specs.Readers.{◌>>=◌, onto, after, number_at, short_at}
use Rattle.script_text.specs.Words.{short_word, has_this_name}

-- what has a literal as all of its text, and the bytes behind that
abbrev pub told : {A : Type 0} → List ℕ → A → List ℕ → Option (A × List ℕ)
told literal x bytes = after literal bytes >>= λ rest. Some (x, rest)

-- a blank or a quote ends a word
abbrev pub ends_word : ℕ → Bool
ends_word b = (b == 32) || (b == 34)

-- a word, and the bytes from there on
abbrev pub word_at : List ℕ → Option (List ℕ × List ℕ)
word_at [] = None
word_at (b ∷ bs) = if ends_word b then Some ([], b ∷ bs) else onto b (word_at bs)

-- the record of that name, if there is one
abbrev pub record_named : List RecordSpec → List ℕ → Option ℕ
record_named records name = position (has_this_name name) records

-- the number in these digits, if no record has it
abbrev pub record_numbered : List RecordSpec → List ℕ → Option ℕ
record_numbered records digits = short_word digits >>= λ r. if nat_lt r (length records) then None else Some r

-- a record by its name, or `?` and a number that none has
abbrev pub logged_record : List RecordSpec → List ℕ → Option ℕ
logged_record records [] = record_named records []
logged_record records (b ∷ bs) = if b == 63 then record_numbered records bs else record_named records (b ∷ bs)

-- such a record, and the bytes behind it
unfoldable pub record_at : List RecordSpec → List ℕ → Option (ℕ × List ℕ)
record_at records bytes = do
  word ← word_at bytes
  r ← logged_record records word.0
  Some (r, word.1)

-- a number below 2 ^ 32
unfoldable pub middle_at : List ℕ → Option (ℕ × List ℕ)
middle_at bytes = do
  n ← number_at bytes
  if nat_lt n.0 (2 ^ 32) then Some n else None

-- numbers up to the closing quote
unfoldable pub last_number : List ℕ → Option (ℕ × List ℕ)
last_number bytes = do
  n ← number_at bytes
  rest ← after (codes "\"") n.1
  Some (n.0, rest)

unfoldable pub last_short : List ℕ → Option (ℕ × List ℕ)
last_short bytes = do
  n ← short_at bytes
  rest ← after (codes "\"") n.1
  Some (n.0, rest)

unfoldable pub last_middle : List ℕ → Option (ℕ × List ℕ)
last_middle bytes = do
  n ← middle_at bytes
  rest ← after (codes "\"") n.1
  Some (n.0, rest)

-- a site, and seats for it
unfoldable pub gift_at : List ℕ → Option (ℕ × ℕ × List ℕ)
gift_at bytes = do
  to ← short_at bytes
  rest ← after (codes " ") to.1
  seats ← last_number rest
  Some (to.0, seats.0, seats.1)

-- rights, and the seats of a record
unfoldable pub shortage_at : List ℕ → Option (ℕ × ℕ × List ℕ)
shortage_at bytes = do
  rights ← number_at bytes
  rest ← after (codes " ") rights.1
  seats ← last_middle rest
  Some (rights.0, seats.0, seats.1)
