use Rattle.std.proofs.Common.{◌≡◌, ◌++◌, take, string_bytes}
use Rattle.text_parts.specs.Lists.{later}
use Rattle.transcript_text.specs.Texts.{session_text}
use Rattle.transcript_text.proofs.sessions.push_sessions.Given as goal

abbrev pub invariant-loop-session : goal.invariant-loop-session
invariant-loop-session l = string_bytes l.text ≡ string_bytes l.initial.text ++ later (session_text l.layout.records) (take l.session-index l.later)
