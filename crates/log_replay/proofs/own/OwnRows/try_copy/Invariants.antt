use Rattle.std.proofs.Common.{◌≡◌, take}
use Rattle.log_replay.proofs.own.OwnRows.try_copy.Given as goal

abbrev pub invariant-rows : goal.invariant-rows
invariant-rows l = l.rows.items ≡ take l.row-index l.self
