-- What is done to a file to which texts are appended (this project's own).
use Rattle.std.specs.Prelude.{ℕ, List, [], ◌∷◌, ◌++◌, take}

-- a text is appended; or the file is cut off behind so many bytes
pub data FileStep : Type 0 where
  Append : (text : List ℕ) → FileStep
  Cut : (length : ℕ) → FileStep

-- what a file has after steps, which had these bytes before
abbrev pub bytes_after : List ℕ → List FileStep → List ℕ
bytes_after bytes [] = bytes
bytes_after bytes (Append text ∷ steps) = bytes_after (bytes ++ text) steps
bytes_after bytes (Cut n ∷ steps) = bytes_after (take n bytes) steps

-- the texts that were appended, one behind the other
abbrev pub appended_in : List FileStep → List ℕ
appended_in [] = []
appended_in (Append text ∷ steps) = text ++ appended_in steps
appended_in (Cut n ∷ steps) = appended_in steps
