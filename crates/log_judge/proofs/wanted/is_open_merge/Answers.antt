use Rattle.std.proofs.Common.{sym, subst, ◌∙◌}
use Rattle.log_judge.specs.Cut.{cut_account}
use Rattle.log_judge.specs.Stream.{AreDone}
use Rattle.log_judge.proofs.ExcessLemmas.{brought_merge}
use Rattle.std.proofs.Common.{false}
use Rattle.log_judge.proofs.wanted.is_open_merge.Goals as goal

pub returns-in-Merge-clause-done : goal.returns-in-Merge-clause-done
returns-in-Merge-clause-done c = λ off layout ts cut more later all.
    subst (AreDone (cut_account layout ts cut)) (c.rows.ensures.rows ∙ sym (brought_merge false c.args.entry.now c.in-Merge.delta (sym c.if-not-is_accepted.ensures) c.in-Merge.is))
    (c.some_open.ensures off layout ts cut more later all)
