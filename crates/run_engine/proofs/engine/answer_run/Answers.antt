use Rattle.std.proofs.Common.{rules, List, All, IfSome, subst, sym, string_bytes}
use Rattle.std.proofs.lemmas.Bool.{MatchBool-at_true}
use Rattle.desk_log.specs.declared.transcript.Transcript.{Transcript}
use Rattle.text_input.specs.Source.{HasFault}
use Rattle.run_engine.specs.Replies.{IsOutput}
use Rattle.run_engine.specs.Logs.{MayBeWritten, WritesIfAny, logs_text}
use Rattle.run_engine.proofs.EngineLemmas.{runs_may_be_written, runs_of_sites}
use Rattle.run_engine.proofs.engine.answer_run.Goals as goal

pub write_logs-requires : goal.write_logs-requires
write_logs-requires g c =
    subst (λ (ts : List Transcript). All (MayBeWritten c.args.layout.now) ts) (sym c.as_slice-2.ensures.value)
    (runs_may_be_written c.args.layout.now c.args.asked.now c.in-Ok.transcripts.items c.sites.ensures.layout c.in-Ok.ensures)

pub returns : goal.returns
returns g c =
    let layout = c.args.layout.now in
    let ts = c.in-Ok.transcripts.items in
    let text = string_bytes c.in-Ok-output_text.text in
    let logged : WritesIfAny c.args.logs.now c.write_logs.new.logs (logs_text layout c.as_slice-2.result.now) =
    MatchBool-at_true (WritesIfAny c.args.logs.now c.write_logs.new.logs (logs_text layout c.as_slice-2.result.now))
    (IfSome c.write_logs.new.logs (λ s. HasFault s.fault)) c.in-Ok-true.field-0-test c.in-Ok-true.ensures in
    record {
      transcripts = ts;
      text = text;
      runs = c.in-Ok.ensures;
      of_sites = runs_of_sites layout c.args.asked.now ts c.in-Ok.ensures;
      output = subst (λ (xs : List Transcript). IsOutput layout xs text) c.as_slice.ensures.value c.in-Ok-output_text.ensures;
      logged = subst (λ (xs : List Transcript). WritesIfAny c.args.logs.now c.write_logs.new.logs (logs_text layout xs)) c.as_slice-2.ensures.value logged;
      written = search rules;
    }
