use Rattle.std.proofs.Common.{◌≡◌, ◌++◌, take, string_bytes}
use Rattle.layout_line.specs.Line.{records_text}
use Rattle.layout_line.proofs.push_records.Given as goal

abbrev pub invariant-loop-spec : goal.invariant-loop-spec
invariant-loop-spec l = string_bytes l.text ≡ string_bytes l.initial.text ++ records_text (take l.spec-index l.records)
