-- The cut that a word names (this project's own words).
use Rattle.std.specs.Prelude.{◌≡◌, ℕ, List, codes, bytes_eq, if◌then◌else◌, Option, Some, None}
use Rattle.text_parts.specs.Readers.{◌>>=◌, joined_at, number_at}
use Rattle.script_text.specs.Words.{all_read}
use Rattle.desk_log.specs.declared.transcript.Transcript.{Transcript}
use Rattle.log_judge.specs.Cut.{full_cut}
use Rattle.judge_engine.specs.declared.cut.CutError.{CutError}
use Rattle.judge_engine.specs.declared.cut.CutError.TheVariants.{BadWord, Memory}

-- The cut of a word: no lengths for `full`, else the numbers between its commas. The word is read whole.
abbrev pub cut_in : List ℕ → Option (Option (List ℕ))
cut_in word = if bytes_eq word (codes "full") then Some None else (all_read (joined_at number_at 65535 word) >>= λ lengths. Some (Some lengths))

-- a word is refused where it names no cut; memory may run out over any word
abbrev pub IsCutFault : List ℕ → CutError → Type 0
IsCutFault word BadWord = cut_in word ≡ None
IsCutFault word Memory = Unit {0}

-- the lengths of a cut through transcripts: where none are named, all entries of each
abbrev pub lengths_of : Option (List ℕ) → List Transcript → List ℕ
lengths_of None ts = full_cut ts
lengths_of (Some lengths) ts = lengths
