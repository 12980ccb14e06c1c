use Rattle.sqlite.specs.Held.{state}
use Rattle.store_rows.specs.Rows.{session_row}
use Rattle.store_rows.specs.Steps.{Brings, HasNoSuchPlace, IsNewTo, with_session}
use Rattle.store_rows.specs.Texts.{add_session_text}
use Rattle.store_rows.proofs.NeverSessionLemmas.{add_stops, added_uses}
use Rattle.store_rows.proofs.RunLemmas.{text_puts}
use Rattle.store_rows.proofs.StepLemmas.{add_goes}
use Rattle.store_rows.proofs.writes.add_session.Goals as goal

pub returns : goal.returns
returns g c =
    let s = c.args.session in
    let old = state g.S.Store c.args.tx.now.conn.now in
    let new = state g.S.Store c.run.new.tx.conn.now in
    let ran = rw (c.number.ensures, c.number-2.ensures, c.number-4.ensures, c.number-5.ensures, c.from.ensures, c.number-3.ensures) at c.run.ensures in
    text_puts c.run.result 1 (IsNewTo s) (Brings (HasNoSuchPlace s) (with_session s)) add_session_text (session_row s) ran (add_goes old new s) (added_uses old new s) (add_stops old new s)
