use Rattle.std.proofs.Common.{[], ◌∷◌}
use Rattle.sqlite.specs.Held.{state}
use Rattle.store_rows.specs.Rows.{notice_row}
use Rattle.store_rows.specs.Steps.{Brings, Any, if_changed, with_notices}
use Rattle.store_rows.specs.Texts.{update_notice_text}
use Rattle.store_rows.proofs.NeverUpdateLemmas.{notice_update_stops, notice_update_uses}
use Rattle.store_rows.proofs.RunLemmas.{count_puts}
use Rattle.store_rows.proofs.StepLemmas.{notice_changes}
use Rattle.store_rows.proofs.writes.update_notice.Goals as goal

pub returns : goal.returns
returns g c =
    let old = state g.S.Store c.args.tx.now.conn.now in
    let new = state g.S.Store c.execute.new.self.conn.now in
    count_puts c.execute.result 0 Any (λ count. Brings Any (if_changed count (with_notices (c.args.notice ∷ [])))) update_notice_text (notice_row c.args.notice) c.execute.ensures.same_reference
    (rw c.notice_values.ensures at c.execute.ensures.runs) c.execute.ensures.survives (notice_changes old new c.args.notice) (notice_update_uses old new c.args.notice) (notice_update_stops old new c.args.notice)
