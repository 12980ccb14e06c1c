-- The map's answer is that of the list.
use Rattle.std.proofs.Common.{arith}
use Rattle.std.proofs.lemmas.Grind.{common_steps}
use Rattle.session_list.proofs.KeptLemmas.{phase_in-sessions_by, IsOnce-sessions_by}
use Rattle.session_list.proofs.sessions.Sessions.phase.Goals as goal

pub returns-clause-found : goal.returns-clause-found
returns-clause-found c =
    let found = phase_in-sessions_by _ _ c.self.invariant c.args.r c.args.h in
    rw (← c.self.view_is) (grind (arith, common_steps, found))

pub returns-clause-once : goal.returns-clause-once
returns-clause-once c = rw (← c.self.view_is) (IsOnce-sessions_by _ _ c.self.invariant)
