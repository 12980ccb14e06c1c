use Rattle.std.proofs.Common.{ℕ, ap, ◌∙◌, get_or, arith}
use Rattle.log_replay.specs.declared.stream.Stage.TheVariants.{Ended}
use Rattle.log_judge.proofs.LogsLemmas.{fault_verdict, reply_verdict}
use Rattle.log_judge.proofs.stream.Logs.first_fault.Goals as goal

pub returns-in-Some-BadJoint : goal.returns-in-Some-BadJoint
returns-in-Some-BadJoint c = λ layout ts cut all is_cut.
    let log = c.index-log.result.now in
    let logs = c.args.self.now.sites.items in
    fault_verdict layout ts cut c.args.self.now c.sites.site log all is_cut (omega (arith, c.sites-test.true, c.requires)) (c.index-log.ensures ∙ ap (λ (n : ℕ). get_or logs n log) c.from.ensures) c.sites.invariant
    (c.in-Some-BadJoint.ensures ∙ ap Ended c.in-Some-BadJoint.field-0-is)

pub returns-in-Some-BadReply : goal.returns-in-Some-BadReply
returns-in-Some-BadReply c = λ layout ts cut all is_cut.
    let log = c.index-log.result.now in
    let logs = c.args.self.now.sites.items in
    reply_verdict layout ts cut c.args.self.now c.sites.site c.in-Some-BadReply.at log all is_cut (omega (arith, c.sites-test.true, c.requires)) (c.index-log.ensures ∙ ap (λ (n : ℕ). get_or logs n log) c.from.ensures) c.sites.invariant
    (c.in-Some-BadReply.ensures ∙ ap Ended c.in-Some-BadReply.field-0-is)
