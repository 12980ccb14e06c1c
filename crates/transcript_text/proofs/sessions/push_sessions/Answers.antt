use Rattle.std.proofs.Common.{arith}
use Rattle.std.proofs.lemmas.Grind.{common_steps}
use Rattle.text_parts.proofs.WritingLaws.{more_later}
use Rattle.transcript_text.specs.Texts.{session_text}
use Rattle.transcript_text.proofs.sessions.push_sessions.Goals as goal

pub loop-session-preserved : goal.loop-session-preserved
loop-session-preserved c =
    more_later (session_text c.args.layout.now.records) _ c.loop-session.session-index _ _ _ _ _ c.loop-session-test.true (grind (arith, common_steps)) c.loop-session.invariant c.in_ok-push_str.ensures.bytes c.in_ok-push_session-2.ensures
