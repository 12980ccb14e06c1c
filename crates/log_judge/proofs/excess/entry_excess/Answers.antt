use Rattle.std.proofs.Common.{List, sym, subst, ◌∙◌}
use Rattle.merge_core.specs.declared.delta.Row.{Row}
use Rattle.log_judge.specs.Excess.{IsFoundIn}
use Rattle.log_judge.proofs.ExcessLemmas.{brought_merge}
use Rattle.log_judge.proofs.excess.entry_excess.Goals as goal

pub returns-in-Merge : goal.returns-in-Merge
returns-in-Merge c =
    let brought = brought_merge c.args.kept c.args.entry.now c.in-Merge.delta (sym (c.if-not-is_accepted.ensures)) c.in-Merge.is in
    subst (λ (rows : List Row). IsFoundIn c.args.tables.now rows c.first_ahead.result) (c.rows.ensures.rows ∙ sym brought) c.first_ahead.ensures
