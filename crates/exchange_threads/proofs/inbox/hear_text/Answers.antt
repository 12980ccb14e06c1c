use Rattle.std.proofs.Common.{◌+◌, inl, inr, refl, sym, subst}
use Rattle.exchange_threads.specs.declared.report.InReport.{InReport}
use Rattle.exchange_threads.specs.declared.fate.Fate.{Fate}
use Rattle.exchange_threads.specs.declared.turn.Turn.TheVariants.{GoesOn}
use Rattle.exchange_threads.specs.Fates.{HasFate}
use Rattle.exchange_threads.proofs.Fates.{unread_has_fate}
use Rattle.exchange_threads.proofs.Replies.{few_raised}
use Rattle.exchange_threads.proofs.Heard.{TakesText, counts_merge, counts_unread}
use Rattle.exchange_threads.proofs.inbox.hear_text.Goals as goal

takes : (r : InReport) → TakesText r (record r { taken = r.taken + 1 })
takes r = record { taken = refl; raised = refl; refused = refl; memory = refl }

pub returns-in-Ok-clause-hears : goal.returns-in-Ok-clause-hears
returns-in-Ok-clause-hears g c = inl record {
  delta = c.in-Ok.delta;
  reply = c.call-reply.result;
  read = c.in-Ok.ensures.exact.1;
  follows = c.call-reply.ensures.follows;
  pass = c.call-reply.ensures.pass;
  tells = c.note_merge.ensures.tells;
  went = c.note_merge.ensures.turn;
}

pub returns-in-Ok-clause-counts : goal.returns-in-Ok-clause-counts
returns-in-Ok-clause-counts g c =
    let before : InReport = c.args.report.now in
    counts_merge c.call-reply.result before (record before { taken = before.taken + 1 }) c.note_merge.new.self (few_raised c.in-Ok.delta c.call-reply.result c.call-reply.ensures.follows) (takes before) c.note_merge.ensures.tells

pub returns-in-Err-clause-hears : goal.returns-in-Err-clause-hears
returns-in-Err-clause-hears g c = inr record {
  error = c.in-Err.error;
  read = c.in-Err.ensures.exact;
  pass = refl;
  tells = c.note_unread.ensures.tells;
  went = refl;
}

pub returns-in-Err-clause-counts : goal.returns-in-Err-clause-counts
returns-in-Err-clause-counts g c =
    let before : InReport = c.args.report.now in
    counts_unread c.in-Err.error before (record before { taken = before.taken + 1 }) c.note_unread.new.self (takes before) c.note_unread.ensures.tells

pub returns-in-Err-clause-fate : goal.returns-in-Err-clause-fate
returns-in-Err-clause-fate g c =
    subst (λ (f : Fate). HasFate c.args.text.now f c.args.pass.now c.args.pass.now c.args.report.now c.note_unread.new.self GoesOn) (sym c.unread_fate.ensures)
    (unread_has_fate c.args.text.now c.in-Err.error c.args.pass.now c.args.report.now c.note_unread.new.self c.in-Err.ensures.exact c.note_unread.ensures.tells)
