-- Small lines and replies, for the laws that compute the definitions on them.
use Rattle.std.specs.Prelude.{ℕ, List, [], ◌∷◌, codes, Option}
use Rattle.merge_core.specs.declared.layout.RecordSpec.{RecordSpec}
use Rattle.admission_model.specs.declared.ask.Ask.{Ask}
use Rattle.script_text.specs.Words.{words_of}
use Rattle.script_text.specs.Asks.{ask_in}

-- two records at two sites
abbrev pub two_records : List RecordSpec
two_records =
    record { name = codes "a"; seats = 2; home = 0; problem = 1 }
    ∷ record { name = codes "stock-2"; seats = 3; home = 1; problem = 2 }
    ∷ []

-- what a line asks there
abbrev pub asked : List ℕ → Option Ask
asked line = ask_in two_records (words_of line)
