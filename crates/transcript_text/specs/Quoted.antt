-- Text between the quotes of a JSON string (RFC 8259): a backslash stands in front of a quote and of a backslash. No
-- other byte is written so, since the texts here have no control characters.
use Rattle.std.specs.Prelude.{ℕ, ◌==◌, ◌||◌, List, [], ◌∷◌, if◌then◌else◌}

abbrev pub escaped : List ℕ → List ℕ
escaped [] = []
escaped (b ∷ bs) = if (b == 34) || (b == 92) then (92 ∷ (b ∷ escaped bs)) else (b ∷ escaped bs)
