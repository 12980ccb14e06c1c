use Rattle.std.proofs.Common.{◌≡◌, take}
use Rattle.desk_log.proofs.same.same_records.Given as goal

abbrev pub invariant-records : goal.invariant-records
invariant-records l = take l.i l.a ≡ take l.i l.b
