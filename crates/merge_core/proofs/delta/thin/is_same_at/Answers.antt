use Rattle.std.proofs.Common.{arith, ◌∙◌}
use Rattle.merge_core.proofs.ThinLemmas.{is_same_in-read, is_same_in-past}
use Rattle.merge_core.proofs.delta.thin.is_same_at.Goals as goal

pub returns : goal.returns
returns c =
    c.is_same.ensures
    ∙ is_same_in-read c.args.rows.now c.args.i c.args.row.now c.index-rows-i.result (omega arith) c.index-rows-i.is

pub returns-then-i-rows : goal.returns-then-i-rows
returns-then-i-rows c = is_same_in-past c.args.rows.now c.args.i c.args.row.now (omega arith)
