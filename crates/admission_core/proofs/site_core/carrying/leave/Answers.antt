use Rattle.std.proofs.Common.{rules, arith}
use Rattle.std.proofs.lemmas.Grind.{common_steps}
use Rattle.admission_core.proofs.site_core.carrying.leave.Goals as goal

pub returns-in-Some-Reader-clause-counters : goal.returns-in-Some-Reader-clause-counters
returns-in-Some-Reader-clause-counters c = search rules

pub returns-in-Some-Writer-clause-counters : goal.returns-in-Some-Writer-clause-counters
returns-in-Some-Writer-clause-counters c = grind (arith, common_steps)

pub returns-in-Some-Reader-clause-sessions : goal.returns-in-Some-Reader-clause-sessions
returns-in-Some-Reader-clause-sessions c = search rules

pub returns-in-Some-Waiting-clause-sessions : goal.returns-in-Some-Waiting-clause-sessions
returns-in-Some-Waiting-clause-sessions c = search rules

pub returns-in-Some-Writer-clause-sessions : goal.returns-in-Some-Writer-clause-sessions
returns-in-Some-Writer-clause-sessions c = search rules
