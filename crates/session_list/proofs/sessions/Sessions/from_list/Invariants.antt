-- The sessions so far are the list so far, and each pair stands once.
use Rattle.std.proofs.Common.{◌≡◌, take}
use Rattle.session_list.specs.Sessions.{IsOnce}
use Rattle.session_list.proofs.sessions.Sessions.from_list.Given as goal

abbrev pub invariant-loop-session : goal.invariant-loop-session
invariant-loop-session l = record { same : l.sessions.sessions ≡ take l.session-index l.list; once : IsOnce l.sessions.sessions }
