use Rattle.std.proofs.Common.{◌≡◌, take}
use Rattle.desk_log.proofs.same.same_rows.Given as goal

abbrev pub invariant-rows : goal.invariant-rows
invariant-rows l = take l.i l.a ≡ take l.i l.b
