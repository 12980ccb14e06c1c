-- The rows of the change are put behind the others, and the index takes them in.
use Rattle.std.proofs.Common.{Option, IfSome, subst}
use Rattle.store_content.specs.Plan.{IsPlan, IsPlanned, Makes, RowsState}
use Rattle.site_store.specs.Rounds.{after_changes}
use Rattle.site_store.proofs.RoundLemmas.{one_planned, rows_storable}
use Rattle.site_store.proofs.rounds.plan_next.Goals as goal

pub returns-clause-plans : goal.returns-clause-plans
returns-clause-plans c done it plans =
    let change = c.args.change.now in
    let round = c.args.round.now in
    let rows = c.in-Some.rows in
    let last = after_changes done it in
    let makes : Makes change last rows =
    subst (λ (o : Option RowsState). IfSome o (Makes change last)) c.in-Some.is (c.in_ok-rows.ensures.law last plans.known plans.content c.requires) in
    let plan : IsPlan change last rows =
    subst (λ (o : Option RowsState). IsPlanned change last o) c.in-Some.is (c.in_ok-rows.ensures.rows last plans.known c.requires) in
    let knows = c.advance.ensures change last (c.in_ok-reserve.ensures.knows last plans.known) plans.content plan in
    let put = c.in_ok-push.ensures in
    rw (put.cells, put.notices, put.edits)
    (one_planned done change it round.cells.items round.notices.items round.edits.items rows c.args.index.now c.advance.new.self plans plan makes knows)

pub returns-clause-storable : goal.returns-clause-storable
returns-clause-storable c all =
    let round = c.args.round.now in
    let rows = c.in-Some.rows in
    let put = c.in_ok-push.ensures in
    let are = c.are_rows.ensures in
    let fit = c.if-not-are_rows.false in
    rw (put.cells, put.notices, put.edits)
    (rows_storable round.cells.items round.notices.items round.edits.items rows all (are.cells fit) (are.notices fit) (are.edit fit))
