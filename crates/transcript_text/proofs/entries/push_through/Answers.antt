use Rattle.std.proofs.Common.{◌++◌, List, ℕ, ap, ◌∙◌}
use Rattle.script_text.specs.Replies.{reply_text}
use Rattle.desk_log.specs.declared.entry.Entry.{Entry}
use Rattle.transcript_text.specs.Texts.{call_text}
use Rattle.transcript_text.proofs.WritingLemmas.{entry_pushed}
use Rattle.transcript_text.proofs.entries.push_through.Goals as goal

pub returns : goal.returns
returns c =
    let records = c.args.layout.now.records in
    let e : Entry = record { pass = c.args.pass; call = c.args.call.now; reply = c.args.reply.now } in
    let call = c.as_str.ensures.value ∙ (c.in_ok-push_call.ensures ∙ ap (λ (x : List ℕ). x ++ call_text records e.call) c.clear.ensures.bytes) in
    let reply = c.as_str-2.ensures.value ∙ (c.in_ok-push_reply.ensures ∙ ap (λ (x : List ℕ). x ++ reply_text e.reply) c.clear-2.ensures.bytes) in
    entry_pushed records e c.as_str.result.now c.as_str-2.result.now c.from.result _ _ _ _ _ _ _ call reply c.from.ensures
    c.in_ok-push_str.ensures.bytes c.in_ok-push_escaped.ensures c.in_ok-push_field.ensures c.in_ok-push_str-2.ensures.bytes c.in_ok-push_escaped-2.ensures c.in_ok-push_str-3.ensures.bytes
