use Rattle.std.proofs.Common.{◌≡◌, ℕ, ap, ◌∙◌, length, arith}
use Rattle.std.specs.Prelude.{◌%◌}
use Rattle.admission_model.specs.declared.ask.Ask.TheVariants.{Help}
use Rattle.admission_model.specs.declared.ask.Call.TheVariants.{Ask as AskCall}
use Rattle.session_book.specs.Passes.{pass_after}
use Rattle.exchange_threads.proofs.outbox.ask_help.Goals as goal

pub returns-clause-asked : goal.returns-clause-asked
returns-clause-asked g c =
    let records : c.from.result ≡ length c.args.site.now.layout.records = grind (arith, c.from.ensures, c.records.ensures.records) in
    record {
      reply = c.call-reply.result;
      pass = c.call-reply.ensures.pass ∙ ap (λ (n : ℕ). pass_after c.args.pass.now (AskCall (Help (c.args.told.now.report.turns % n))) c.call-reply.result) records;
      report = c.note_help.ensures.report;
      went = c.note_help.ensures.turn;
    }
