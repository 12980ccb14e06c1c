-- Whole lines, and the last of them (this project's own).
use Rattle.std.specs.Prelude.{◌≡◌, ℕ, ◌⊎◌, List, [], ◌∷◌, ◌++◌}
use Rattle.text_input.specs.Lines.{EndsLine, HasNoLf}

-- bytes are whole lines: none, or the last byte is an LF
abbrev pub AreWhole : List ℕ → Type 0
AreWhole bytes = (bytes ≡ []) ⊎ EndsLine bytes

-- bytes are whole lines and a part of a line, which was torn
pub record IsTorn (bytes whole torn : List ℕ) : Type 0 where
  pub split : bytes ≡ whole ++ torn
  pub are_whole : AreWhole whole
  pub no_line : HasNoLf torn

-- the last of whole lines
pub record HasLastLine (whole front line : List ℕ) : Type 0 where
  pub split : whole ≡ front ++ (line ++ 10 ∷ [])
  pub are_whole : AreWhole front
  pub one_line : HasNoLf line
