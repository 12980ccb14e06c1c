use Rattle.std.proofs.Common.{sym, ◌∙◌, string_bytes}
use Rattle.site_script.proofs.StepLemmas.{call_answered, call_lost, log_grows}
use Rattle.site_script.proofs.LineLemmas.{if_err}
use Rattle.site_script.proofs.serving.answer_call.Goals as goal

pub returns-clause-answered : goal.returns-clause-answered
returns-clause-answered g c =
    call_answered g.K.Keeper c.args.desk.now c.serve-reply.new.self c.args.pass c.args.call.now c.serve-reply.result c.serve-reply.ensures.served
    (sym c.is_memory.ensures ∙ c.if-is_memory.false)
    (string_bytes c.args.text.now) (string_bytes c.push_reply.new.text) (string_bytes c.push_str.new.self) c.in_ok-push_reply.ensures c.in_ok-push_str.ensures.bytes

pub returns-in_err-push_reply-clause-grown : goal.returns-in_err-push_reply-clause-grown
returns-in_err-push_reply-clause-grown g c = log_grows g.K.Keeper c.args.desk.now c.serve-reply.new.self c.args.pass c.args.call.now c.serve-reply.result c.serve-reply.ensures.served

pub returns-in_err-push_str-clause-grown : goal.returns-in_err-push_str-clause-grown
returns-in_err-push_str-clause-grown g c = log_grows g.K.Keeper c.args.desk.now c.serve-reply.new.self c.args.pass c.args.call.now c.serve-reply.result c.serve-reply.ensures.served

pub returns-clause-grown : goal.returns-clause-grown
returns-clause-grown g c = log_grows g.K.Keeper c.args.desk.now c.serve-reply.new.self c.args.pass c.args.call.now c.serve-reply.result c.serve-reply.ensures.served

pub returns-in_err-push_reply-clause-lost : goal.returns-in_err-push_reply-clause-lost
returns-in_err-push_reply-clause-lost g c =
    if_err _ c.from_residual.result
    (call_lost g.K.Keeper c.args.desk.now c.serve-reply.new.self c.args.pass c.args.call.now c.serve-reply.result c.serve-reply.ensures.served (string_bytes c.args.text.now))

pub returns-in_err-push_str-clause-lost : goal.returns-in_err-push_str-clause-lost
returns-in_err-push_str-clause-lost g c =
    if_err _ c.from_residual-in_err-push_str.result
    (call_lost g.K.Keeper c.args.desk.now c.serve-reply.new.self c.args.pass c.args.call.now c.serve-reply.result c.serve-reply.ensures.served (string_bytes c.args.text.now))
