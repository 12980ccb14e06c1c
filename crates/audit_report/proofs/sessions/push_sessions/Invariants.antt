use Rattle.std.proofs.Common.{take}
use Rattle.audit_report.specs.Writing.{AddsSessions}
use Rattle.audit_report.proofs.sessions.push_sessions.Given as goal

abbrev pub invariant-loop-session : goal.invariant-loop-session
invariant-loop-session l = AddsSessions l.records l.i (take l.session-index l.sessions) l.initial.rows l.rows
