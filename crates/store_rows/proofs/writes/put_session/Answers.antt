use Rattle.std.proofs.Common.{arith}
use Rattle.sqlite.specs.Held.{state}
use Rattle.store_rows.specs.Steps.{with_drop}
use Rattle.store_rows.proofs.ChainLemmas.{new_then}
use Rattle.store_rows.proofs.RunLemmas.{puts_failed, puts_then}
use Rattle.store_rows.proofs.StepLemmas.{put_session_goes}
use Rattle.store_rows.proofs.writes.put_session.Goals as goal

pub returns : goal.returns
returns g c =
    let s = c.args.session in
    let old = state g.S.Store c.args.tx.now.conn.now in
    let mid = state g.S.Store c.drop_session.new.tx.conn.now in
    let new = state g.S.Store c.add_session.new.tx.conn.now in
    puts_then c.add_session.result 0 1 (with_drop s.r s.h) (λ p two. two) (new_then s) (λ brings. brings) c.in_ok-drop_session.ensures c.add_session.ensures (λ _. put_session_goes old.now mid.now new.now s)

pub returns-in_err-drop_session : goal.returns-in_err-drop_session
returns-in_err-drop_session g c = puts_failed c.from_residual.result 0 1 (omega arith) (λ p fits. tt) c.from_residual.ensures.1 c.in_err-drop_session.ensures
