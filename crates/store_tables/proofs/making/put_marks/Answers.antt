use Rattle.std.proofs.Common.{codes}
use Rattle.sqlite.specs.Held.{state}
use Rattle.store_rows.specs.Holding.{Parts, mark}
use Rattle.store_rows.specs.Steps.{Any, Brings, with_mark}
use Rattle.store_rows.proofs.BesideLemmas.{spares_then}
use Rattle.store_rows.proofs.RunLemmas.{runs_failed, runs_stopped, runs_then}
use Rattle.store_tables.proofs.making.put_marks.Goals as goal

pub returns : goal.returns
returns g c =
    let d0 = (state g.S.Store c.args.tx.now.conn.now).now in
    let d1 = (state g.S.Store c.put_mark.new.tx.conn.now).now in
    let d2 = (state g.S.Store c.put_mark-2.new.tx.conn.now).now in
    let d3 = (state g.S.Store c.put_mark-3.new.tx.conn.now).now in
    let r = c.put_mark-3.result in
    let site = λ (p : Parts). with_mark (mark (codes "site") c.args.site.now) p in
    let layout = λ (p : Parts). with_mark (mark (codes "layout") c.args.layout.now) p in
    runs_then r (rw c.version_text.ensures at c.in_ok-put_mark.ensures)
    (runs_then {G = λ _ _ _. Brings Any site d1 d2 × Brings Any layout d2 d3} r c.in_ok-put_mark-2.ensures c.put_mark-3.ensures (λ _ two three. (two, three)))
    (λ _ one later p second any h.
    let x = one p second tt h in
    let y = later.0 _ second tt x.0 in
    let z = later.1 _ second tt y.0 in
    (z.0, spares_then d0 d2 d3 (spares_then d0 d1 d2 x.1 y.1) z.1))

pub returns-in_err-put_mark : goal.returns-in_err-put_mark
returns-in_err-put_mark g c = runs_failed c.from_residual.result c.from_residual.ensures.1 c.in_err-put_mark.ensures

pub returns-in_err-put_mark-2 : goal.returns-in_err-put_mark-2
returns-in_err-put_mark-2 g c = runs_failed c.from_residual-in_err-put_mark-2.result c.from_residual-in_err-put_mark-2.ensures.1 (runs_stopped c.in_ok-put_mark.ensures c.in_err-put_mark-2.ensures)
