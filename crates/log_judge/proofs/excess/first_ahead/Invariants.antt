use Rattle.std.proofs.Common.{length}
use Rattle.merge_core.specs.Delta.{IsRising}
use Rattle.merge_core.specs.declared.delta.Row.{Row}
use Rattle.multi_site_world.specs.Laws.{StandsIn}
use Rattle.log_judge.specs.Excess.{IsAhead}
use Rattle.log_judge.proofs.excess.first_ahead.Given as goal

abbrev pub invariant-rows : goal.invariant-rows
invariant-rows l = record {
  rising : IsRising l.rest;
  among : (q : Row) → StandsIn q l.rest → StandsIn q l.rows;
  left : (q : Row) → StandsIn q l.rows → IsAhead l.tables q → StandsIn q l.rest;
}

abbrev pub decreases-rows : goal.decreases-rows
decreases-rows l = length l.rest
