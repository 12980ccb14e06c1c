use Rattle.std.proofs.Common.{[], ◌∷◌, arith}
use Rattle.sqlite.specs.Held.{state}
use Rattle.store_rows.specs.Holding.{Parts}
use Rattle.store_rows.specs.Steps.{with_notices}
use Rattle.store_rows.proofs.ChainLemmas.{brought_none, brings_next}
use Rattle.store_rows.proofs.RunLemmas.{puts_failed, puts_then, puts_told}
use Rattle.store_rows.proofs.StepLemmas.{changed}
use Rattle.store_rows.proofs.writes.put_notice.Goals as goal

pub returns : goal.returns
returns g c =
    let f = with_notices (c.args.notice ∷ []) in
    let old = state g.S.Store c.args.tx.now.conn.now in
    let mid = state g.S.Store c.update_notice.new.tx.conn.now in
    puts_told 0 1 (omega arith) (changed old.now mid.now c.in_ok-count.count f c.if-count-eq0.false) c.in_ok-count.ensures

pub returns-in_err-count : goal.returns-in_err-count
returns-in_err-count g c = puts_failed c.from_residual.result 0 1 (omega arith) (λ p fits. fits) c.from_residual.ensures.1 c.in_err-count.ensures

pub returns-then-count-eq0 : goal.returns-then-count-eq0
returns-then-count-eq0 g c =
    let f = with_notices (c.args.notice ∷ []) in
    let old = state g.S.Store c.args.tx.now.conn.now in
    let mid = state g.S.Store c.update_notice.new.tx.conn.now in
    let new = state g.S.Store c.replace_notice.new.tx.conn.now in
    let none = brought_none old.now mid.now c.in_ok-count.count f c.if-count-eq0.true in
    puts_then c.replace_notice.result 0 1 (λ (p : Parts). p) (λ p two. two) (λ p fits. fits) none c.in_ok-count.ensures c.replace_notice.ensures (λ _ one next. brings_next f old.now mid.now new.now (none one) next)
