-- The entry of the new session has the next number, so its session goes last.
use Rattle.std.proofs.Common.{◌<◌, ◌++◌, [], ◌∷◌, ap, sym, ◌∙◌, arith, Result, Ok, Err, IsOk, OnOk, true≢false}
use Rattle.indexmap.specs.IndexMap.{spare}
use Rattle.session_list.specs.Sessions.{Held, phase_in}
use Rattle.session_list.proofs.KeptLemmas.{Arrives, arrives, IsOnce-sessions_by}
use Rattle.session_list.proofs.SessionsLemmas.{phase_in-push}
use Rattle.session_list.proofs.sessions.Sessions.push.Goals as goal

at_ok : {T E : Type 0} (r : Result T E) (P : Type 0) → IsOk r → OnOk r P → P
at_ok (Ok x) P ok on = on
at_ok (Err e) P ok on = absurd (true≢false (sym ok))

-- what the arrival makes of the entries
step : (c : goal.After-self-1) → Arrives c.self.inside.map.entries c.insert.new.self.entries c.self.inside.next c.args.session
step c =
    let absent = ap (λ (v : Held). phase_in v.sessions c.args.session.r c.args.session.h) c.self.view_is ∙ c.requires.absent in
    let room = ap (λ (v : Held). v.room) c.self.view_is in
    let some : 0 < spare c.self.inside.map = omega (arith, room, c.requires.room) in
    let inserted = at_ok c.insert.result _ (c.insert.ensures.succeeds some) c.insert.ensures.entries in
    arrives _ _ _ _ _ _ c.self.invariant absent inserted c.insert.ensures.unique

pub invariant_of-self : goal.invariant_of-self
invariant_of-self c = (step c).numbered

pub returns-clause-sessions : goal.returns-clause-sessions
returns-clause-sessions c = (step c).sessions ∙ ap (λ (v : Held). v.sessions ++ c.args.session ∷ []) c.self.view_is

pub returns-clause-phases : goal.returns-clause-phases
returns-clause-phases c =
    λ q g. ap (λ l. phase_in l q g) ((step c).sessions ∙ ap (λ (v : Held). v.sessions ++ c.args.session ∷ []) c.self.view_is)
    ∙ phase_in-push c.args.self.now.sessions c.args.session q g c.requires.absent

pub returns-clause-once : goal.returns-clause-once
returns-clause-once c = IsOnce-sessions_by _ _ (step c).numbered
