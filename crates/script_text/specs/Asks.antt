-- What a line of a script asks of a site (this project's own format): a verb, the record's name, and the numbers that
-- belong to it.
use Rattle.std.specs.Prelude.{ℕ, List, [], ◌∷◌, codes, if◌then◌else◌, Option, Some, None}
use Rattle.std.specs.Str.{bytes_eq}
use Rattle.merge_core.specs.declared.layout.RecordSpec.{RecordSpec}
use Rattle.admission_model.specs.declared.ask.Ask.{Ask}
use Rattle.admission_model.specs.declared.ask.Ask.TheVariants.{Read, Announce, Quill, Leave, Give, Help}
use Rattle.text_parts.specs.Readers.{◌>>=◌}
use Rattle.script_text.specs.Words.{number_word, short_word, record_word}

-- `NAME`
abbrev pub record_in : List RecordSpec → List (List ℕ) → Option ℕ
record_in records (name ∷ []) = record_word records name
record_in records words = None

-- `NAME H`: a record and a holder
abbrev pub holder_in : List RecordSpec → List (List ℕ) → Option (ℕ × ℕ)
holder_in records (name ∷ holder ∷ []) = do
  r ← record_word records name
  h ← number_word holder
  Some (r, h)
holder_in records words = None

-- `NAME J N`: a record, a site, and a number of seats
abbrev pub gift_in : List RecordSpec → List (List ℕ) → Option (ℕ × ℕ × ℕ)
gift_in records (name ∷ site ∷ seats ∷ []) = do
  r ← record_word records name
  to ← short_word site
  n ← number_word seats
  Some (r, to, n)
gift_in records words = None

-- what stands behind each verb
abbrev pub ask_behind : List RecordSpec → List ℕ → List (List ℕ) → Option Ask
ask_behind records verb words =
    if bytes_eq verb (codes "read") then (holder_in records words >>= λ p. Some (Read p.0 p.1)) else (
    if bytes_eq verb (codes "announce") then (holder_in records words >>= λ p. Some (Announce p.0 p.1)) else (
    if bytes_eq verb (codes "write") then (holder_in records words >>= λ p. Some (Quill p.0 p.1)) else (
    if bytes_eq verb (codes "leave") then (holder_in records words >>= λ p. Some (Leave p.0 p.1)) else (
    if bytes_eq verb (codes "give") then (gift_in records words >>= λ g. Some (Give g.0 g.1 g.2)) else (
    if bytes_eq verb (codes "help") then (record_in records words >>= λ r. Some (Help r)) else None)))))

-- the words of a whole line
abbrev pub ask_in : List RecordSpec → List (List ℕ) → Option Ask
ask_in records [] = None
ask_in records (verb ∷ words) = ask_behind records verb words
