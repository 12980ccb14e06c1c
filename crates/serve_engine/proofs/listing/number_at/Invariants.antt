use Rattle.std.proofs.Common.{◌≡◌, ◌+◌, ◌≤◌, drop}
use Rattle.serve_engine.specs.Answers.{number_at}
use Rattle.serve_engine.proofs.listing.number_at.Given as goal

abbrev pub invariant-loop-session : goal.invariant-loop-session
invariant-loop-session l = (l.number + number_at l.r (drop l.session-index l.sessions) ≡ number_at l.r l.sessions) × (l.number ≤ l.session-index)
