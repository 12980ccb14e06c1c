use Rattle.sqlite.specs.Held.{state}
use Rattle.store_rows.specs.Holding.{mark}
use Rattle.store_rows.specs.Rows.{mark_row}
use Rattle.store_rows.specs.Steps.{Brings, Any, with_mark}
use Rattle.store_rows.specs.Texts.{put_mark_text}
use Rattle.store_rows.proofs.RunLemmas.{text_runs}
use Rattle.store_rows.proofs.StepLemmas.{mark_goes}
use Rattle.store_rows.proofs.writes.put_mark.Goals as goal

pub returns : goal.returns
returns g c =
    let m = mark c.args.name.now c.args.value.now in
    let ran = rw (c.as_bytes.ensures.value, c.as_bytes-2.ensures.value) at c.run.ensures in
    text_runs c.run.result (Brings Any (with_mark m)) put_mark_text (mark_row m.name m.value) ran (mark_goes (state g.S.Store c.args.tx.now.conn.now) (state g.S.Store c.run.new.tx.conn.now) m)
