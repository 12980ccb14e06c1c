use Rattle.std.proofs.Common.{[], ◌∷◌}
use Rattle.sqlite.specs.Held.{state}
use Rattle.store_rows.specs.Rows.{notice_row}
use Rattle.store_rows.specs.Steps.{Brings, Any, with_notices}
use Rattle.store_rows.specs.Texts.{put_notice_text}
use Rattle.store_rows.proofs.NeverLemmas.{notice_stops, notice_uses}
use Rattle.store_rows.proofs.RunLemmas.{text_puts}
use Rattle.store_rows.proofs.StepLemmas.{notice_goes}
use Rattle.store_rows.proofs.writes.replace_notice.Goals as goal

pub returns : goal.returns
returns g c =
    let old = state g.S.Store c.args.tx.now.conn.now in
    let new = state g.S.Store c.run.new.tx.conn.now in
    text_puts c.run.result 1 Any (Brings Any (with_notices (c.args.notice ∷ []))) put_notice_text (notice_row c.args.notice) (rw c.notice_values.ensures at c.run.ensures) (notice_goes old new c.args.notice)
    (notice_uses old new c.args.notice) (notice_stops old new c.args.notice)
