use Rattle.std.proofs.Common.{◌≡◌, [], List, ℕ, map, replicate}
use Rattle.std.specs.String.{string_bytes}
use Rattle.audit_report.proofs.rows.Rows.new.Given as goal

abbrev pub invariant-loop-r : goal.invariant-loop-r
invariant-loop-r l = map string_bytes l.texts.items ≡ replicate {A = List ℕ} l._r []
