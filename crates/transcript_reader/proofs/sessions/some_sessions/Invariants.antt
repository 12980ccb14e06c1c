use Rattle.std.proofs.Common.{◌≡◌, ◌-◌, length}
use Rattle.text_parts.specs.Readers.{later_at, joined_at}
use Rattle.text_parts.proofs.ElementLaws.{with_front}
use Rattle.transcript_reader.specs.Readers.{session_at}
use Rattle.transcript_reader.proofs.sessions.some_sessions.Given as goal

abbrev pub invariant-loop : goal.invariant-loop
invariant-loop l =
    with_front l.sessions.items (later_at (session_at l.layout.records) (length l.bytes - l.counter) l.rest)
    ≡ joined_at (session_at l.layout.records) (length l.bytes) l.bytes
