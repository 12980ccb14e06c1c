-- As many sessions as entries, and each pair once.
use Rattle.std.proofs.Common.{ap, sym, ◌∙◌, length}
use Rattle.session_list.specs.Sessions.{Held}
use Rattle.session_list.proofs.KeptLemmas.{length-sessions_by, IsOnce-sessions_by}
use Rattle.session_list.proofs.sessions.Sessions.len.Goals as goal

pub returns-clause-count : goal.returns-clause-count
returns-clause-count c = c.len.ensures.len ∙ sym (length-sessions_by _ _ c.self.invariant) ∙ ap (λ (v : Held). length v.sessions) c.self.view_is

pub returns-clause-once : goal.returns-clause-once
returns-clause-once c = rw (← c.self.view_is) (IsOnce-sessions_by _ _ c.self.invariant)
