use Rattle.std.proofs.Common.{rules}
use Rattle.admission_core.proofs.restoring.sessions.adds_up.Goals as goal

pub returns-then-taken-granted : goal.returns-then-taken-granted
returns-then-taken-granted c = search rules
