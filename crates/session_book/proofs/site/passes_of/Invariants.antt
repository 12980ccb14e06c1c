use Rattle.std.proofs.Common.{◌≡◌, ◌+◌}
use Rattle.session_book.specs.Sites.{new_passes}
use Rattle.session_book.proofs.site.passes_of.Given as goal

abbrev pub invariant-passes : goal.invariant-passes
invariant-passes g l = record {
  all : l.all.items ≡ new_passes l.number;
  parts : l.rest.parts + l.number ≡ l.passes;
  amount : l.rest.amount ≡ 0;
}
