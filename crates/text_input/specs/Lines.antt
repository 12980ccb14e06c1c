-- The lines of an input (this project's own rule): a line ends with LF; what follows the last LF is a line
-- where it isn't empty. Every other byte is ordinary.
use Rattle.std.specs.Prelude.{◌≡◌, ℕ, ◌<◌, true, ◌==◌, List, [], ◌∷◌, ◌++◌, length, slice_index, if◌then◌else◌}

-- a byte in front of the first line, which it begins where there is none
abbrev pub onto_first : ℕ → List (List ℕ) → List (List ℕ)
onto_first b [] = (b ∷ []) ∷ []
onto_first b (l ∷ ls) = (b ∷ l) ∷ ls

-- the lines of the bytes, without their LF
abbrev pub lines_of : List ℕ → List (List ℕ)
lines_of [] = []
lines_of (b ∷ bs) = if b == 10 then [] ∷ lines_of bs else onto_first b (lines_of bs)

-- the last byte is an LF
abbrev pub EndsLine : List ℕ → Type 0
EndsLine bytes = (before : List ℕ) × (bytes ≡ before ++ 10 ∷ [])

-- no byte is an LF
abbrev pub HasNoLf : List ℕ → Type 0
HasNoLf bytes = (i : ℕ) → i < length bytes → ¬ ((slice_index bytes i == 10) ≡ true)
