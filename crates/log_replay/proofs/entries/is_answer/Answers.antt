use Rattle.std.proofs.lemmas.Result.{IfOk-weaker}
use Rattle.admission_model.specs.declared.ask.Call.TheVariants.{Ask, Merge}
use Rattle.log_replay.proofs.EntryLemmas.{served_reply, served_stands}
use Rattle.log_replay.proofs.entries.is_answer.Goals as goal

pub returns-in-Ask-clause-same : goal.returns-in-Ask-clause-same
returns-in-Ask-clause-same c =
    rw c.in-Ask.is
    (IfOk-weaker c.is_same.result _ _ (λ ok p. served_reply c.args.core.now c.ask.new.self (Ask c.in-Ask.ask) c.ask.result c.args.reply.now ok c.ask.ensures p.1 p.0) c.is_same.ensures)

pub returns-in-Ask-clause-stands : goal.returns-in-Ask-clause-stands
returns-in-Ask-clause-stands c =
    rw c.in-Ask.is (IfOk-weaker c.is_same.result _ _ (λ ok p. served_stands c.args.core.now c.ask.new.self (Ask c.in-Ask.ask) c.ask.result c.ask.ensures p.1) c.is_same.ensures)

pub returns-in-Merge-clause-same : goal.returns-in-Merge-clause-same
returns-in-Merge-clause-same c =
    rw c.in-Merge.is
    (IfOk-weaker c.is_same-in-Merge.result _ _ (λ ok p. served_reply c.args.core.now c.merge.new.self (Merge c.in-Merge.delta) c.merge.result c.args.reply.now ok c.merge.ensures p.1 p.0) c.is_same-in-Merge.ensures)

pub returns-in-Merge-clause-stands : goal.returns-in-Merge-clause-stands
returns-in-Merge-clause-stands c =
    rw c.in-Merge.is (IfOk-weaker c.is_same-in-Merge.result _ _ (λ ok p. served_stands c.args.core.now c.merge.new.self (Merge c.in-Merge.delta) c.merge.result c.merge.ensures p.1) c.is_same-in-Merge.ensures)
