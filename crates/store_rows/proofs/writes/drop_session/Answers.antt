use Rattle.std.proofs.Common.{pos, [], ◌∷◌}
use Rattle.sqlite_value.specs.declared.value.Value.TheVariants.{Int}
use Rattle.sqlite.specs.Held.{state}
use Rattle.store_rows.specs.Steps.{Brings, Any, with_drop}
use Rattle.store_rows.specs.Texts.{drop_session_text}
use Rattle.store_rows.proofs.NeverSessionLemmas.{drop_stops, dropped_uses}
use Rattle.store_rows.proofs.RunLemmas.{text_puts}
use Rattle.store_rows.proofs.StepLemmas.{drop_goes}
use Rattle.store_rows.proofs.writes.drop_session.Goals as goal

pub returns : goal.returns
returns g c =
    let r = c.args.r in
    let h = c.args.h in
    let old = state g.S.Store c.args.tx.now.conn.now in
    let new = state g.S.Store c.run.new.tx.conn.now in
    let ran = rw (c.number.ensures, c.number-2.ensures, c.from.ensures) at c.run.ensures in
    text_puts c.run.result 0 Any (Brings Any (with_drop r h)) drop_session_text (Int (pos r) ∷ Int (pos h) ∷ []) ran (drop_goes old new r h) (dropped_uses old new r h) (drop_stops old new r h)
