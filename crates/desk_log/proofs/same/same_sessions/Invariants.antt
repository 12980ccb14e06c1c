use Rattle.std.proofs.Common.{◌≡◌, take}
use Rattle.desk_log.proofs.same.same_sessions.Given as goal

abbrev pub invariant-sessions : goal.invariant-sessions
invariant-sessions l = take l.i l.a ≡ take l.i l.b
