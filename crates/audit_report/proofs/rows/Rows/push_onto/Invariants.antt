use Rattle.std.proofs.Common.{◌≡◌, ◌++◌, [], slice_index_or}
use Rattle.std.specs.String.{string_bytes}
use Rattle.audit_report.specs.Lines.{texts_below}
use Rattle.audit_report.proofs.rows.Rows.push_onto.Given as goal

abbrev pub invariant-loop-lines : goal.invariant-loop-lines
invariant-loop-lines l = string_bytes l.text ≡ string_bytes l.initial.text ++ texts_below l.lines-index (λ r. slice_index_or l.self r [])
