use Rattle.std.proofs.Common.{◌<◌, ◌+◌, Ok, Err, [], ◌∷◌, ◌++◌, length, take, get_or, arith}
use Rattle.std.proofs.lemmas.List.{take_more}
use Rattle.sqlite.specs.Held.{state}
use Rattle.store_rows.specs.declared.content.StoredNotice.{StoredNotice}
use Rattle.store_rows.specs.Steps.{Brings, Any, with_notices}
use Rattle.store_rows.proofs.BesideLemmas.{spares_same}
use Rattle.store_rows.proofs.RunLemmas.{puts_failed, puts_none, puts_then}
use Rattle.store_rows.proofs.StepLemmas.{notices_more}
use Rattle.store_rows.proofs.writes.put_notices.Goals as goal

pub loop-notice-init : goal.loop-notice-init
loop-notice-init g c = puts_none (λ p two fits h. (h, spares_same (state g.S.Store c.args.tx.now.conn.now).now))

pub loop-notice-preserved : goal.loop-notice-preserved
loop-notice-preserved g c =
    let all = c.args.notices.now in
    let i = c.loop-notice.notice-index in
    let d : StoredNotice = record { r = 0; site = 0; announced = 0; finished = 0 } in
    let old = state g.S.Store c.args.tx.now.conn.now in
    let mid = state g.S.Store c.loop-notice.tx.conn.now in
    let new = state g.S.Store c.put_notice.new.tx.conn.now in
    let within : i < length all = omega arith in
    rw (take_more all i d within)
    (puts_then (Ok tt) i 1 (with_notices (take i all)) (λ p two. two) (λ p fits. fits) (λ brings. brings) c.loop-notice.invariant c.in_ok-put_notice.ensures (λ _. notices_more old.now mid.now new.now (take i all) (get_or all i d)))

pub returns-in_err-put_notice : goal.returns-in_err-put_notice
returns-in_err-put_notice g c =
    let all = c.args.notices.now in
    let i = c.loop-notice.notice-index in
    let d : StoredNotice = record { r = 0; site = 0; announced = 0; finished = 0 } in
    let x = get_or all i d in
    let old = state g.S.Store c.args.tx.now.conn.now in
    let mid = state g.S.Store c.loop-notice.tx.conn.now in
    let new = state g.S.Store c.put_notice.new.tx.conn.now in
    let within : i < length all = omega arith in
    puts_failed {E = λ _. Brings Any (with_notices (take i all ++ x ∷ []))} c.from_residual.result (i + 1) (length all) (omega (arith, within)) (λ p fits. fits) c.from_residual.ensures.1
    (puts_then (Err c.in_err-put_notice.field-0.0) i 1 (with_notices (take i all)) (λ p two. two) (λ p fits. fits) (λ brings. brings) c.loop-notice.invariant c.in_err-put_notice.ensures (λ _. notices_more old.now mid.now new.now (take i all) x))
