-- A session whose pair has one before it stands there a second time.
use Rattle.std.proofs.Common.{ap, sym, ◌∙◌, is_some, true≢false, get_or}
use Rattle.session_list.specs.declared.session.Phase.TheVariants.{Reader}
use Rattle.session_list.specs.declared.session.Session.{Session}
use Rattle.session_list.specs.Sessions.{phase_in}
use Rattle.session_list.proofs.SessionsLemmas.{not_once}
use Rattle.session_list.proofs.sessions.Sessions.from_list.Goals as goal

none : Session
none = record { r = 0; h = 0; phase = Reader }

pub returns-then-is_some-clause-once : goal.returns-then-is_some-clause-once
unfolding none
returns-then-is_some-clause-once c =
    let i = c.loop-session.session-index in
    let found = sym c.if-is_some.true ∙ c.is_some.ensures ∙ ap is_some c.phase.ensures.found in
    let before = ap (λ l. is_some (phase_in l (get_or c.args.list.now i none).r (get_or c.args.list.now i none).h)) c.loop-session.invariant.same in (
      λ some. absurd (true≢false (sym some)),
      λ once. absurd (not_once c.args.list.now i none c.loop-session-test.true (λ absent. true≢false (found ∙ before ∙ ap is_some absent)) once),
    )
