use Rattle.std.proofs.Common.{◌≡◌, ◌++◌, string_bytes}
use Rattle.log_judge.specs.Table.{blanks}
use Rattle.log_judge.proofs.table.push_blanks.Given as goal

abbrev pub invariant-loop-k : goal.invariant-loop-k
invariant-loop-k l = string_bytes l.text ≡ string_bytes l.initial.text ++ blanks l._k
