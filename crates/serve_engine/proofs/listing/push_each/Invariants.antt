use Rattle.std.proofs.Common.{◌≡◌, ◌++◌, drop, true}
use Rattle.std.specs.Prelude.{string_bytes}
use Rattle.serve_engine.specs.Answers.{sessions_text}
use Rattle.serve_engine.proofs.listing.push_each.Given as goal

abbrev pub invariant-loop-session : goal.invariant-loop-session
invariant-loop-session l =
    string_bytes l.text ++ sessions_text l.r l.first (drop l.session-index l.sessions) ≡ string_bytes l.initial.text ++ sessions_text l.r true l.sessions
