-- A delta written as compact JSON (RFC 8259), in a format of this project's own: the keys of an object stand
-- in the order of their bytes, and a number is its decimal digits, so that a delta has just one spelling.
use Rattle.std.specs.Prelude.{ℕ, List, ◌++◌, codes, decimal}
use Rattle.merge_core.specs.Delta.{DeltaState}
use Rattle.merge_core.specs.declared.delta.Row.{Row}
use Rattle.text_parts.specs.Lists.{joined}

-- one row: an object of its counters and of the record and site that they belong to
unfoldable pub row_text : Row → List ℕ
row_text p =
    codes "{\"ann\":" ++ (decimal p.ann ++ (codes ",\"fin\":" ++ (decimal p.fin
    ++ (codes ",\"out\":[" ++ (joined decimal p.out ++ (codes "],\"r\":" ++ (decimal p.r
    ++ (codes ",\"s\":" ++ (decimal p.s ++ (codes ",\"taken\":" ++ (decimal p.taken ++ codes "}")))))))))))

-- the whole text: the label, the rows in their order, and the format's version
unfoldable pub delta_text : DeltaState → List ℕ
delta_text d =
    codes "{\"from\":" ++ (decimal d.from ++ (codes ",\"rows\":[" ++ (joined row_text d.rows ++ codes "],\"v\":1}")))
