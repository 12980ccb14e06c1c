use Rattle.std.proofs.Common.{length, sym}
use Rattle.std.proofs.lemmas.Result.{err_from_is_err_and}
use Rattle.text_parts.proofs.ElementLaws.{stops, fails, goes_on, is_done}
use Rattle.transcript_reader.specs.Readers.{session_at}
use Rattle.transcript_reader.proofs.sessions.some_sessions.Goals as goal

pub returns-in_default : goal.returns-in_default
returns-in_default c =
    stops (session_at c.args.layout.now.records) c.loop.sessions.items _ c.loop.rest.now _ (sym c.in_default.ensures) c.loop.invariant

pub returns-in_err-session : goal.returns-in_err-session
returns-in_err-session c =
    let p = err_from_is_err_and c.from_residual-in_err-session.result c.from_residual-in_err-session.ensures.1 in
    rw (p.1, p.2) (fails c.in_err-session.field-0.0 (session_at c.args.layout.now.records) c.loop.sessions.items (length c.args.bytes.now) c.loop.counter c.loop.rest.now c.in-Some.tail.now _ c.loop-test.true (sym c.in-Some.ensures) c.in_err-session.ensures c.loop.invariant)

pub loop-preserved : goal.loop-preserved
loop-preserved c =
    rw c.in_ok-push-2.ensures.items (goes_on (session_at c.args.layout.now.records) c.loop.sessions.items (length c.args.bytes.now) c.loop.counter c.loop.rest.now c.in-Some.tail.now c.in_ok-session.session c.in_ok-session.behind.now _ c.loop-test.true (sym c.in-Some.ensures) c.in_ok-session.ensures c.loop.invariant)

pub returns : goal.returns
returns c = is_done (session_at c.args.layout.now.records) c.loop.sessions.items (length c.args.bytes.now) c.loop.counter c.loop.rest.now _ c.loop-test.false c.loop.invariant
