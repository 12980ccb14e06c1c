use Rattle.std.proofs.Common.{◌∙◌}
use Rattle.std.proofs.lemmas.Result.{err_from_is_err_and}
use Rattle.transcript_reader.proofs.BeginLemmas.{book_fails, book_so}
use Rattle.transcript_reader.proofs.openings.book_at.Goals as goal

pub returns-in_err-bytes : goal.returns-in_err-bytes
returns-in_err-bytes c = λ d rest is same.
    let p = err_from_is_err_and c.from_residual.result c.from_residual.ensures.1 in
    rw p.1 (p.2 ∙ book_fails c.in_err-bytes.field-0.0 c.args.line.now c.in_err-bytes.ensures.read d rest same)

pub returns : goal.returns
returns c = book_so (λ x. (x.0, x.1.now)) c.args.line.now c.in_ok-bytes.bytes.now c.told_at.result c.in_ok-bytes.ensures.read c.told_at.ensures
