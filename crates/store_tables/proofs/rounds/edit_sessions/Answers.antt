use Rattle.std.proofs.Common.{◌<◌, length, take, get_or, Ok, arith}
use Rattle.std.proofs.lemmas.List.{take_more}
use Rattle.sqlite.specs.Held.{state}
use Rattle.store_rows.specs.declared.content.SessionEdit.{SessionEdit}
use Rattle.store_rows.specs.declared.content.SessionEdit.TheVariants.{Put}
use Rattle.store_rows.specs.declared.content.Stage.TheVariants.{Reader}
use Rattle.store_rows.proofs.RunLemmas.{runs_failed, runs_none, runs_stopped, runs_then}
use Rattle.store_tables.proofs.RoundLemmas.{none_edited, one_edited}
use Rattle.store_tables.proofs.rounds.edit_sessions.Goals as goal

pub loop-edit-init : goal.loop-edit-init
loop-edit-init g c = runs_none (none_edited (state g.S.Store c.args.tx.now.conn.now).now)

pub loop-edit-preserved : goal.loop-edit-preserved
loop-edit-preserved g c =
    let all = c.args.edits.now in
    let i = c.loop-edit.edit-index in
    let d : SessionEdit = Put (record { r = 0; h = 0; stage = Reader; place = 0 }) in
    let within : i < length all = omega arith in
    rw (take_more all i d within)
    (runs_then (Ok tt) c.loop-edit.invariant c.in_ok-edit_session.ensures.runs (λ _. one_edited (state g.S.Store c.args.tx.now.conn.now).now (state g.S.Store c.loop-edit.tx.conn.now).now (state g.S.Store c.edit_session.new.tx.conn.now).now (take i all) (get_or all i d)))

pub returns-in_err-edit_session : goal.returns-in_err-edit_session
returns-in_err-edit_session g c = runs_failed c.from_residual.result c.from_residual.ensures.1 (runs_stopped c.loop-edit.invariant c.in_err-edit_session.ensures.runs)
