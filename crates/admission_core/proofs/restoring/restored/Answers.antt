use Rattle.std.proofs.Common.{◌∙◌, arith}
use Rattle.std.proofs.lemmas.Result.{err_from_is_err_and}
use Rattle.admission_model.specs.Account.{begin}
use Rattle.admission_model.specs.Restoring.{origin_from}
use Rattle.admission_core.proofs.RestoringCores.{core_read, sessions_refused}
use Rattle.admission_core.proofs.CoreLemmas.{is_core}
use Rattle.admission_core.proofs.restoring.restored.Goals as goal

pub returns-clause-answer : goal.returns-clause-answer
returns-clause-answer c =
    let at_cells = c.as_slice.ensures.value ∙ c.into_parts-cells.ensures.cells in
    let at_sessions = c.as_slice-2.ensures.value ∙ c.into_parts-cells.ensures.sessions in
    rw c.from_parts.ensures
    (core_read c.args.layout c.args.site c.args.durable c.as_slice.result.now c.as_slice-2.result.now c.in_ok-book.book c.in_ok-sessions.sessions at_cells at_sessions (omega arith) c.in_ok-book.ensures c.in_ok-sessions.ensures)

pub from_parts-requires : goal.from_parts-requires
from_parts-requires c =
    let at_cells = c.as_slice.ensures.value ∙ c.into_parts-cells.ensures.cells in
    let at_sessions = c.as_slice-2.ensures.value ∙ c.into_parts-cells.ensures.sessions in
    is_core _ c.sites.ensures.layout (begin (origin_from c.args.layout c.args.site c.args.durable.cells c.args.durable.sessions))
    (core_read c.args.layout c.args.site c.args.durable c.as_slice.result.now c.as_slice-2.result.now c.in_ok-book.book c.in_ok-sessions.sessions at_cells at_sessions (omega arith) c.in_ok-book.ensures c.in_ok-sessions.ensures).stands

pub returns-in_err-sessions-clause-answer : goal.returns-in_err-sessions-clause-answer
returns-in_err-sessions-clause-answer c =
    let at_cells = c.as_slice.ensures.value ∙ c.into_parts-cells.ensures.cells in
    let at_sessions = c.as_slice-2.ensures.value ∙ c.into_parts-cells.ensures.sessions in
    let p = err_from_is_err_and c.from_residual-in_err-sessions.result c.from_residual-in_err-sessions.ensures.1 in
    rw (p.1, p.2)
    (sessions_refused c.args.layout c.args.site c.args.durable c.as_slice.result.now c.as_slice-2.result.now c.in_ok-book.book _ at_cells at_sessions (omega arith) c.in_ok-book.ensures c.in_err-sessions.ensures)
