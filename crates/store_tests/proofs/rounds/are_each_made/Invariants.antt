use Rattle.std.proofs.Common.{◌≡◌}
use Rattle.store_tests.proofs.rounds.are_each_made.Given as goal

abbrev pub invariant-loop-count : goal.invariant-loop-count
invariant-loop-count l = record {
  layout : l.keeper.layout ≡ l.layout;
  site : l.keeper.site ≡ 0;
}
