use Rattle.std.proofs.Common.{◌∙◌, sym, arith}
use Rattle.admission_core.specs.Core.{core_view}
use Rattle.admission_core.proofs.JoiningLemmas.{placed_at}
use Rattle.live_site.proofs.PlaceLemmas.{row_record, walk_core, walk_stops, walk_ends}
use Rattle.live_site.proofs.overfull.first_overfull.Goals as goal

pub given_with-given-requires-clause-placed : goal.given_with-given-requires-clause-placed
given_with-given-requires-clause-placed c =
    let read = c.rows-row-items in
    placed_at c.args.core.now c.args.delta.now read.result.now c.loop-row.row-index c.row-item.result c.requires.core read.ensures.rows c.requires.free
    c.loop-row-test.true c.row-item.is

pub lacking-requires-clause-record : goal.lacking-requires-clause-record
lacking-requires-clause-record c =
    let read = c.rows-row-items in
    row_record c.args.core.now c.row-item.result c.requires.core
    (placed_at c.args.core.now c.args.delta.now read.result.now c.loop-row.row-index c.row-item.result c.requires.core read.ensures.rows c.requires.free
    c.loop-row-test.true c.row-item.is)

pub returns-then-given-lacking : goal.returns-then-given-lacking
returns-then-given-lacking c =
    let core = c.args.core.now in
    let read = c.rows-row-items in
    let p = c.row-item.result in
    sym (walk_stops (core_view core) c.loop-row.r c.loop-row.given read.result.now c.loop-row.row-index p c.loop-row-test.true c.row-item.is c.given_with-given.result c.lacking.result
    c.given_with-given.ensures c.lacking.ensures.value c.if-given-lacking.true)
    ∙ (c.loop-row.invariant ∙ walk_core core c.args.delta.now read.result.now c.requires.core read.ensures.valid read.ensures.rows c.requires.free)

pub returns : goal.returns
returns c =
    let core = c.args.core.now in
    let read = c.rows-row-items in
    sym (walk_ends (core_view core) c.loop-row.r c.loop-row.given read.result.now c.loop-row.row-index (omega arith))
    ∙ (c.loop-row.invariant ∙ walk_core core c.args.delta.now read.result.now c.requires.core read.ensures.valid read.ensures.rows c.requires.free)
