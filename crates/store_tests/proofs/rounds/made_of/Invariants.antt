use Rattle.std.proofs.Common.{◌≡◌}
use Rattle.site_store.specs.Sql.{layout_of, site_of}
use Rattle.store_tests.proofs.rounds.made_of.Given as goal

abbrev pub invariant-loop-count : goal.invariant-loop-count
invariant-loop-count g l = record {
  layout : layout_of l.keeper ≡ l.layout;
  site : site_of l.keeper ≡ 0;
}
