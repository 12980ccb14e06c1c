-- The reading of a delta's text from left to right. For private clauses: that it gives exactly the delta
-- whose text it reads is proved in proofs/.
use Rattle.std.specs.Prelude.{ℕ, List, [], ◌∷◌, length, codes, ◌==◌, if◌then◌else◌, Option, Some, None}
use Rattle.merge_core.specs.Delta.{DeltaState}
use Rattle.merge_core.specs.declared.delta.Row.{Row}
use Rattle.text_parts.specs.Readers.{◌>>=◌, after, number_at, short_at, joined_at}

-- a number behind a literal
unfoldable pub number_behind : List ℕ → List ℕ → Option (ℕ × List ℕ)
number_behind literal bytes = after literal bytes >>= number_at

unfoldable pub short_behind : List ℕ → List ℕ → Option (ℕ × List ℕ)
short_behind literal bytes = after literal bytes >>= short_at

-- 1 to 16 numbers behind a literal
unfoldable pub numbers_behind : List ℕ → List ℕ → Option (List ℕ × List ℕ)
numbers_behind literal bytes = after literal bytes >>= joined_at number_at 15

unfoldable pub row_at : List ℕ → Option (Row × List ℕ)
row_at bytes = do
  ann ← number_behind (codes "{\"ann\":") bytes
  fin ← number_behind (codes ",\"fin\":") ann.1
  out ← numbers_behind (codes ",\"out\":[") fin.1
  r ← short_behind (codes "],\"r\":") out.1
  s ← short_behind (codes ",\"s\":") r.1
  taken ← number_behind (codes ",\"taken\":") s.1
  rest ← after (codes "}") taken.1
  Some (record { r = r.0; s = s.0; out = out.0; taken = taken.0; ann = ann.0; fin = fin.0 }, rest)

-- at most 4,096 rows: there are no more pairs of a record and a site
unfoldable pub rows_at : List ℕ → Option (List Row × List ℕ)
rows_at [] = None
rows_at (b ∷ bs) = if b == 93 then Some ([], b ∷ bs) else joined_at row_at 4095 (b ∷ bs)

-- all of the bytes
unfoldable pub delta_at : List ℕ → Option DeltaState
delta_at bytes = do
  from ← short_behind (codes "{\"from\":") bytes
  open_rows ← after (codes ",\"rows\":[") from.1
  rows ← rows_at open_rows
  rest ← after (codes "],\"v\":1}") rows.1
  if length rest == 0 then Some (record { from = from.0; rows = rows.0 }) else None
