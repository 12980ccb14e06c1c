use Rattle.std.proofs.Common.{◌≡◌, ◌+◌, length, vec_len}
use Rattle.session_book.specs.Passes.{receipts_in}
use Rattle.session_book.proofs.closing.gathered.Given as goal

abbrev pub invariant-passes : goal.invariant-passes
invariant-passes g l = record {
  parts : l.all.parts + length l.passes.items ≡ length l.initial.passes.items;
  amount : l.all.amount + receipts_in l.passes.items ≡ receipts_in l.initial.passes.items;
}

abbrev pub decreases-passes : goal.decreases-passes
decreases-passes g l = vec_len l.passes
