-- The reading of a delta's text between quotes, from left to right: no byte of it but the quotes of its literals has a
-- backslash in front (RFC 8259). For private clauses: that it gives exactly the delta whose text stands there is proved in
-- proofs/.
use Rattle.std.specs.Prelude.{ℕ, List, [], ◌∷◌, codes, ◌==◌, if◌then◌else◌, Option, Some, None}
use Rattle.merge_core.specs.Delta.{DeltaState}
use Rattle.merge_core.specs.declared.delta.Row.{Row}
use Rattle.text_parts.specs.Readers.{◌>>=◌, after, joined_at}
use Rattle.delta_codec.specs.DeltaReaders.{number_behind, short_behind, numbers_behind}

unfoldable pub row_at : List ℕ → Option (Row × List ℕ)
row_at bytes = do
  ann ← number_behind (codes "{\\\"ann\\\":") bytes
  fin ← number_behind (codes ",\\\"fin\\\":") ann.1
  out ← numbers_behind (codes ",\\\"out\\\":[") fin.1
  r ← short_behind (codes "],\\\"r\\\":") out.1
  s ← short_behind (codes ",\\\"s\\\":") r.1
  taken ← number_behind (codes ",\\\"taken\\\":") s.1
  rest ← after (codes "}") taken.1
  Some (record { r = r.0; s = s.0; out = out.0; taken = taken.0; ann = ann.0; fin = fin.0 }, rest)

-- at most 4,096 rows: there are no more pairs of a record and a site
unfoldable pub rows_at : List ℕ → Option (List Row × List ℕ)
rows_at [] = None
rows_at (b ∷ bs) = if b == 93 then Some ([], b ∷ bs) else joined_at row_at 4095 (b ∷ bs)

-- the delta, and the bytes behind the closing quote
unfoldable pub delta_at : List ℕ → Option (DeltaState × List ℕ)
delta_at bytes = do
  from ← short_behind (codes "{\\\"from\\\":") bytes
  open_rows ← after (codes ",\\\"rows\\\":[") from.1
  rows ← rows_at open_rows
  rest ← after (codes "],\\\"v\\\":1}\"") rows.1
  Some (record { from = from.0; rows = rows.0 }, rest)
