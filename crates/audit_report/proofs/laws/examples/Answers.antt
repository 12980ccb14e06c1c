use Rattle.audit_report.proofs.ExampleLemmas.{seats_shown, sessions_shown}
use Rattle.audit_report.proofs.laws.examples.Goals as goal

pub returns-clause-seats : goal.returns-clause-seats
returns-clause-seats c = seats_shown

pub returns-clause-sessions : goal.returns-clause-sessions
returns-clause-sessions c = sessions_shown
