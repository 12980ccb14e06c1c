use Rattle.std.proofs.Common.{◌≡◌, sym, ◌∙◌}
use Rattle.std.proofs.lemmas.Bool.{false≢true}
use Rattle.std.proofs.lemmas.Result.{err_from_is_err_and}
use Rattle.text_parts.specs.declared.unread.Unread.TheVariants.{Refused}
use Rattle.transcript_reader.proofs.EntryLemmas.{no_head, no_call, no_pass, no_reply, no_end, entry_sound}
use Rattle.transcript_reader.proofs.entries.entry_in.Goals as goal

pub returns-in_err-rest-clause-refused : goal.returns-in_err-rest-clause-refused
returns-in_err-rest-clause-refused c = λ refused.
    let p = err_from_is_err_and c.from_residual.result c.from_residual.ensures.1 in
    let e : c.in_err-rest.field-0.0 ≡ Refused = cc in
    no_head c.args.layout.now.records c.in_err-rest.field-0.0 c.args.line.now c.in_err-rest.ensures.read e

pub returns-in_err-call-clause-refused : goal.returns-in_err-call-clause-refused
returns-in_err-call-clause-refused c = λ refused.
    let p = err_from_is_err_and c.from_residual-in_err-call.result c.from_residual-in_err-call.ensures.1 in
    let e : c.in_err-call.field-0.0 ≡ Refused = cc in
    no_call c.args.layout.now.records c.in_err-call.field-0.0 c.args.line.now c.in_ok-rest.rest.now c.in_ok-rest.ensures.read c.in_err-call.ensures e

pub returns-in_err-pass-clause-refused : goal.returns-in_err-pass-clause-refused
returns-in_err-pass-clause-refused c = λ refused.
    let p = err_from_is_err_and c.from_residual-in_err-pass.result c.from_residual-in_err-pass.ensures.1 in
    let e : c.in_err-pass.field-0.0 ≡ Refused = cc in
    no_pass c.args.layout.now.records c.in_err-pass.field-0.0 c.args.line.now c.in_ok-rest.rest.now c.in_ok-call.call c.in_ok-call.rest.now c.in_ok-rest.ensures.read c.in_ok-call.ensures.1 c.in_err-pass.ensures e

pub returns-in_err-reply-clause-refused : goal.returns-in_err-reply-clause-refused
returns-in_err-reply-clause-refused c = λ refused.
    let p = err_from_is_err_and c.from_residual-in_err-reply.result c.from_residual-in_err-reply.ensures.1 in
    let e : c.in_err-reply.field-0.0 ≡ Refused = cc in
    no_reply c.args.layout.now.records c.in_err-reply.field-0.0 c.args.line.now c.in_ok-rest.rest.now c.in_ok-call.call c.in_ok-call.rest.now c.in_ok-pass.pass c.in_ok-pass.rest.now
    c.in_ok-rest.ensures.read c.in_ok-call.ensures.1 c.in_ok-pass.ensures c.in_err-reply.ensures e

pub returns-then-is_same-clause-sound : goal.returns-then-is_same-clause-sound
returns-then-is_same-clause-sound c =
    entry_sound c.args.layout.now.records c.args.line.now c.in_ok-rest.rest.now c.in_ok-call.call c.in_ok-call.rest.now c.in_ok-pass.pass c.in_ok-pass.rest.now c.in_ok-reply.reply c.in_ok-reply.rest.now
    c.in_ok-rest.ensures.read c.in_ok-call.ensures.1 c.in_ok-pass.ensures c.in_ok-reply.ensures.1 (c.is_same.ensures.0 c.if-is_same.true)

pub returns-clause-refused : goal.returns-clause-refused
returns-clause-refused c = λ refused.
    no_end c.args.layout.now.records c.args.line.now c.in_ok-rest.rest.now c.in_ok-call.call c.in_ok-call.rest.now c.in_ok-pass.pass c.in_ok-pass.rest.now c.in_ok-reply.reply c.in_ok-reply.rest.now
    c.in_ok-rest.ensures.read c.in_ok-call.ensures.1 c.in_ok-pass.ensures c.in_ok-reply.ensures.1 (λ same. false≢true (sym c.if-is_same.false ∙ c.is_same.ensures.1 same))
