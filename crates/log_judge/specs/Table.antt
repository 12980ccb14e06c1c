-- The table of a cut through closed logs (texts of the project's own).
use Rattle.std.specs.Prelude.{ℕ, zero, suc, ◌-◌, List, [], ◌∷◌, ◌++◌, length, replicate, codes, decimal, slice_index, slice_index_or}
use Rattle.desk_log.specs.declared.transcript.Transcript.{Transcript}
use Rattle.log_judge.specs.Cut.{entries_in, no_transcript}

-- so many blanks
abbrev pub blanks : ℕ → List ℕ
blanks n = replicate n 32

-- a number in decimal digits, at the right of so many places; a longer one stands as it is
abbrev pub number_in : ℕ → ℕ → List ℕ
number_in places n = blanks (places - length (decimal n)) ++ decimal n

-- the line of a site: its number, the cut's length there, and how many entries and runs its transcript has
abbrev pub cut_line : Transcript → ℕ → List ℕ
cut_line t n =
    number_in 4 t.site ++ (number_in 9 n ++ (number_in 9 (entries_in t.runs) ++ (number_in 6 (length t.runs) ++ 10 ∷ [])))

-- .. by these numbers; private contracts alone cite it
abbrev pub counts_line : ℕ → ℕ → ℕ → ℕ → List ℕ
counts_line site n entries runs = number_in 4 site ++ (number_in 9 n ++ (number_in 9 entries ++ (number_in 6 runs ++ 10 ∷ [])))

-- the lines of the first n transcripts, in their order
abbrev pub cut_lines : List Transcript → List ℕ → ℕ → List ℕ
cut_lines ts cut zero = []
cut_lines ts cut (suc n) = cut_lines ts cut n ++ cut_line (slice_index_or ts n no_transcript) (slice_index cut n)

abbrev pub cut_header : List ℕ
cut_header = codes "site      cut  entries  runs\n"

-- the table: a line for each transcript
abbrev pub cut_table : List Transcript → List ℕ → List ℕ
cut_table ts cut = cut_header ++ cut_lines ts cut (length ts)
