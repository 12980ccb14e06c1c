use Rattle.std.proofs.Common.{[], subst}
use Rattle.multi_site_world.specs.Laws.{StandsIn}
use Rattle.log_replay.proofs.ListLemmas.{parts, none_left}
use Rattle.log_judge.proofs.ExcessLemmas.{first_found, rows_passed}
use Rattle.log_judge.proofs.excess.first_ahead.Goals as goal

pub returns-then-is_ahead : goal.returns-then-is_ahead
returns-then-is_ahead c =
    first_found c.args.tables.now c.args.rows.now c.rows.rest.now _ c.row-item.result (parts c.rows.rest.now c.row-item.result c.in-len1-up.len_at_least c.row-item.is)
    c.rows.invariant.rising c.rows.invariant.among c.rows.invariant.left (c.is_ahead.ensures.0 c.if-is_ahead.true)

pub rows-preserved : goal.rows-preserved
rows-preserved c =
    let it = rows_passed c.args.tables.now c.args.rows.now c.rows.rest.now _ c.row-item.result (parts c.rows.rest.now c.row-item.result c.in-len1-up.len_at_least c.row-item.is)
    c.rows.invariant.rising c.rows.invariant.among c.rows.invariant.left (λ ahead. let yes = c.is_ahead.ensures.1 ahead in cc (yes, c.if-is_ahead.false)) in
    record { rising = it.0; among = it.1; left = it.2 }

pub returns : goal.returns
returns c = λ q there ahead.
    let gone : StandsIn q [] = subst (StandsIn q) (none_left c.rows.rest.now c.in_default.len_below) (c.rows.invariant.left q there ahead) in
    gone
