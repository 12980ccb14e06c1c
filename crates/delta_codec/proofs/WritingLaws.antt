-- Texts written piece by piece.
use Rattle.std.proofs.Common.{◌≡◌, ℕ, List, ◌++◌, codes, decimal, append_assoc}
use Rattle.merge_core.specs.Delta.{DeltaState}
use Rattle.merge_core.specs.declared.delta.Row.{Row}
use Rattle.delta_codec.specs.DeltaText.{row_text, delta_text}
use Rattle.text_parts.specs.Lists.{joined}

-- a row, field by field
pub row_pushed : (p : Row) (out : List ℕ) (r s : ℕ) (b0 b1 b2 b3 b4 b5 b6 b7 b8 : List ℕ) → out ≡ p.out → r ≡ p.r → s ≡ p.s → b1 ≡ b0 ++ (codes "{\"ann\":" ++ decimal p.ann) → b2 ≡ b1 ++ (codes ",\"fin\":" ++ decimal p.fin) → b3 ≡ b2 ++ codes ",\"out\":[" → b4 ≡ b3 ++ joined decimal out → b5 ≡ b4 ++ (codes "],\"r\":" ++ decimal r) → b6 ≡ b5 ++ (codes ",\"s\":" ++ decimal s) → b7 ≡ b6 ++ (codes ",\"taken\":" ++ decimal p.taken) → b8 ≡ b7 ++ codes "}" → b8 ≡ b0 ++ row_text p
unfolding row_text
row_pushed p out r s b0 b1 b2 b3 b4 b5 b6 b7 b8 eo er es e1 e2 e3 e4 e5 e6 e7 e8 = rw (e8, e7, e6, e5, e4, e3, e2, e1, eo, er, es) (simp append_assoc)

-- a delta: the label, the rows, and the version
pub delta_pushed : (d : DeltaState) (from : ℕ) (b0 b1 b2 b3 b4 : List ℕ) → from ≡ d.from → b1 ≡ b0 ++ (codes "{\"from\":" ++ decimal from) → b2 ≡ b1 ++ codes ",\"rows\":[" → b3 ≡ b2 ++ joined row_text d.rows → b4 ≡ b3 ++ codes "],\"v\":1}" → b4 ≡ b0 ++ delta_text d
unfolding delta_text
delta_pushed d from b0 b1 b2 b3 b4 ef e1 e2 e3 e4 = rw (e4, e3, e2, e1, ef) (simp append_assoc)
