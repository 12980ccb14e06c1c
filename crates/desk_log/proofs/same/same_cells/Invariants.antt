use Rattle.std.proofs.Common.{◌≡◌, take}
use Rattle.desk_log.proofs.same.same_cells.Given as goal

abbrev pub invariant-cells : goal.invariant-cells
invariant-cells l = take l.i l.a ≡ take l.i l.b
