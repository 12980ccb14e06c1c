use Rattle.std.proofs.Common.{◌≡◌, ◌++◌, string_bytes}
use Rattle.log_judge.specs.Table.{cut_header, cut_lines}
use Rattle.log_judge.proofs.table.cut_table.Given as goal

abbrev pub invariant-sites : goal.invariant-sites
invariant-sites l = string_bytes l.text ≡ cut_header ++ cut_lines l.transcripts l.cut l.i
