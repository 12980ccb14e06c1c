use Rattle.std.proofs.Common.{sym, subst}
use Rattle.std.proofs.lemmas.Bool.{eqb-true}
use Rattle.std.proofs.lemmas.Result.{IfOk-weaker}
use Rattle.log_replay.specs.Replay.{IsEndable}
use Rattle.log_replay.proofs.ListLemmas.{parts}
use Rattle.log_replay.proofs.EntryLemmas.{end_test}
use Rattle.log_replay.proofs.entries.may_end.Goals as goal

pub returns-clause-answer : goal.returns-clause-answer
returns-clause-answer c =
    let e = c.entry-item.result in
    IfOk-weaker c.changes.result _ _
    (λ b is a stands.
    let split = parts c.args.left.now e c.in-len1-up.len_at_least c.entry-item.is in
    let fault = sym c.if-not-is_fault.ensures in
    end_test a c.args.left.now _ e b split (eqb-true _ 0 (sym c.if-not-is_empty.ensures)) fault (is a (stands (subst IsEndable (sym split) fault))))
    c.changes.ensures.answer
