use Rattle.std.proofs.Common.{subst}
use Rattle.multi_site_world.specs.Laws.{StandsIn}
use Rattle.log_replay.proofs.ListLemmas.{parts, none_left}
use Rattle.log_judge.specs.Cut.{cut_account}
use Rattle.log_judge.proofs.StreamLemmas.{done_cons}
use Rattle.log_judge.proofs.wanted.some_open.Goals as goal

pub rows-preserved : goal.rows-preserved
rows-preserved c = λ layout ts cut more later all done.
    c.rows.invariant layout ts cut more later all
    (done_cons (cut_account layout ts cut) c.rows.rest.now _ c.row-item.result (parts c.rows.rest.now c.row-item.result c.in-len1-up.len_at_least c.row-item.is)
    (c.is_open.ensures c.if-is_open.false layout ts cut more later all) done)

pub returns : goal.returns
returns c = λ off layout ts cut more later all.
    c.rows.invariant layout ts cut more later all (λ q there. absurd (subst (StandsIn q) (none_left c.rows.rest.now c.in_default.len_below) there))
