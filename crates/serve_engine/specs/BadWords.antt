-- Which word of a line that asks for nothing is not right (this project's own rules). Words are counted from 1.
use Rattle.std.specs.Prelude.{ℕ, ◌+◌, Bool, List, [], ◌∷◌, codes, if◌then◌else◌, Option, Some, None, is_some}
use Rattle.std.specs.Str.{bytes_eq}
use Rattle.merge_core.specs.declared.layout.RecordSpec.{RecordSpec}
use Rattle.script_text.specs.Words.{words_of, number_word, short_word, record_word}
use Rattle.serve_engine.specs.declared.wrong_words.Kind.{Kind}
use Rattle.serve_engine.specs.declared.wrong_words.Kind.TheVariants.{Name, Number, Site}

-- whether a word is of this kind: what can be a record's name; a holder or a number of seats; a site (this project's own)
abbrev pub is_fit : List RecordSpec → Kind → List ℕ → Bool
is_fit records Name word = is_some (record_word records word)
is_fit records Number word = is_some (number_word word)
is_fit records Site word = is_some (short_word word)

-- the kinds of words behind a verb, where there is such a verb; none behind `take`, since its text is at fault where a line
-- with this verb asks for nothing (this project's own)
abbrev pub kinds_behind : List ℕ → Option (List Kind)
kinds_behind verb =
    if bytes_eq verb (codes "read") then Some (Name ∷ Number ∷ []) else (
    if bytes_eq verb (codes "announce") then Some (Name ∷ Number ∷ []) else (
    if bytes_eq verb (codes "write") then Some (Name ∷ Number ∷ []) else (
    if bytes_eq verb (codes "leave") then Some (Name ∷ Number ∷ []) else (
    if bytes_eq verb (codes "fence") then Some (Name ∷ Number ∷ []) else (
    if bytes_eq verb (codes "give") then Some (Name ∷ Site ∷ Number ∷ []) else (
    if bytes_eq verb (codes "help") then Some (Name ∷ []) else (
    if bytes_eq verb (codes "show") then Some (Name ∷ []) else (
    if bytes_eq verb (codes "sessions") then Some (Name ∷ []) else (
    if bytes_eq verb (codes "send") then Some [] else (
    if bytes_eq verb (codes "take") then Some [] else None))))))))))

-- how many words are right before the first that is not of the kind that is wanted there, is missing, or is one too many
-- (this project's own)
abbrev pub right_words : List RecordSpec → List Kind → List (List ℕ) → ℕ
right_words records [] words = 0
right_words records (kind ∷ kinds) [] = 0
right_words records (kind ∷ kinds) (word ∷ words) = if is_fit records kind word then 1 + right_words records kinds words else 0

-- the place of the first word that is not right, by the kinds of words behind the verb (this project's own)
abbrev pub wrong_behind : List RecordSpec → Option (List Kind) → List (List ℕ) → ℕ
wrong_behind records None words = 1
wrong_behind records (Some kinds) words = 2 + right_words records kinds words

-- the place of the first word that is not right, among the words of a line (this project's own)
abbrev pub wrong_among : List RecordSpec → List (List ℕ) → ℕ
wrong_among records [] = 1
wrong_among records (verb ∷ words) = wrong_behind records (kinds_behind verb) words

-- the place of the first word that is not right, in a line that asks for nothing (this project's own)
abbrev pub wrong_word : List RecordSpec → List ℕ → ℕ
wrong_word records line = wrong_among records (words_of line)
