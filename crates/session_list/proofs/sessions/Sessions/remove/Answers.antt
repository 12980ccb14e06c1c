-- The entries after the swap are those that the pair leaves, in another order.
use Rattle.std.proofs.Common.{ap, ◌∙◌, arith}
use Rattle.std.proofs.lemmas.Grind.{common_steps}
use Rattle.session_list.specs.Sessions.{Held, phase_in, without}
use Rattle.session_list.proofs.KeptLemmas.{Leaves, leaves, phase_in-sessions_by, IsOnce-sessions_by}
use Rattle.session_list.proofs.SessionsLemmas.{phase_in-without}
use Rattle.session_list.proofs.sessions.Sessions.remove.Goals as goal

-- what the leave makes of the entries
step : (c : goal.After-map) → Leaves c.args.r c.args.h c.self.inside.map.entries c.swap_remove.new.self.entries c.self.inside.next
step c = rw c.swap_remove.ensures.entries (leaves c.args.r c.args.h _ _ c.self.invariant)

pub invariant_of-self : goal.invariant_of-self
invariant_of-self c = (step c).numbered

pub returns-clause-had : goal.returns-clause-had
returns-clause-had c =
    let found = phase_in-sessions_by _ _ c.self.invariant c.args.r c.args.h in
    rw (← c.self.view_is) (grind (arith, common_steps, found))

pub returns-clause-sessions : goal.returns-clause-sessions
returns-clause-sessions c = (step c).sessions ∙ ap (λ (v : Held). without v.sessions c.args.r c.args.h) c.self.view_is

pub returns-clause-phases : goal.returns-clause-phases
returns-clause-phases c =
    λ q g. ap (λ l. phase_in l q g) ((step c).sessions ∙ ap (λ (v : Held). without v.sessions c.args.r c.args.h) c.self.view_is)
    ∙ phase_in-without c.args.self.now.sessions c.args.r c.args.h q g

pub returns-clause-once : goal.returns-clause-once
returns-clause-once c = IsOnce-sessions_by _ _ (step c).numbered
