use Rattle.std.proofs.Common.{◌≡◌}
use Rattle.store_tests.proofs.rounds.is_each_made.Given as goal

abbrev pub invariant-loop-change : goal.invariant-loop-change
invariant-loop-change l = record {
  layout : l.keeper.layout ≡ l.initial.keeper.layout;
  site : l.keeper.site ≡ l.initial.keeper.site;
}
