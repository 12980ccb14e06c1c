use Rattle.audit_report.specs.Writing.{HasRows}
use Rattle.audit_report.proofs.sessions.session_lines.Given as goal

abbrev pub invariant-loop-i : goal.invariant-loop-i
invariant-loop-i l = HasRows l.world l.i l.rows
