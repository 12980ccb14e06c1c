use Rattle.std.proofs.lemmas.Result.{err_from_is_err_and}
use Rattle.transcript_reader.proofs.DeltaLemmas.{delta_takes, parts_fail, parts_misfit}
use Rattle.transcript_reader.proofs.deltas.told_at.Goals as goal

pub returns-in_err-from : goal.returns-in_err-from
returns-in_err-from c =
    let p = err_from_is_err_and c.from_residual.result c.from_residual.ensures.1 in
    rw (p.1, p.2) (parts_fail c.in_err-from.field-0.0 c.args.bytes.now c.in_err-from.ensures)

pub returns-in-Ok : goal.returns-in-Ok
returns-in-Ok c = rw c.in-Ok.ensures.value (c.in-Ok.ensures.answer, delta_takes c.args.bytes.now _ _ c.in_ok-from.ensures)

pub returns-in-Err : goal.returns-in-Err
returns-in-Err c = parts_misfit c.args.bytes.now _ _ c.in_ok-from.ensures c.in-Err.ensures.answer
