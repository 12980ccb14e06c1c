use Rattle.merge_core.proofs.KnownLemmas.{JoinsAll-step, JoinsAll-whole, NamesKnown-joined, checked_at}
use Rattle.merge_core.proofs.book.Book.join_all.Goals as goal

pub join-requires : goal.join-requires
join-requires c =
    checked_at c.args.self.now c.loop-delta.self c.args.deltas.now c.loop-delta.delta-index c.delta-item.result c.requires c.loop-delta-test.true c.delta-item.is c.loop-delta.invariant.joined.shape

pub loop-delta-preserved : goal.loop-delta-preserved
loop-delta-preserved c = record {
  joined = JoinsAll-step c.args.self.now c.loop-delta.self c.join.new.self c.args.deltas.now c.loop-delta.delta-index c.delta-item.result c.loop-delta-test.true c.delta-item.is c.loop-delta.invariant.joined c.join.ensures.counters;
  book = c.join.ensures.book;
}

pub returns-clause-counters : goal.returns-clause-counters
returns-clause-counters c =
    JoinsAll-whole c.args.self.now c.loop-delta.self c.args.deltas.now c.loop-delta.delta-index c.loop-delta-test.false c.loop-delta.invariant.joined

pub returns-clause-names : goal.returns-clause-names
returns-clause-names c = NamesKnown-joined c.args.self.now c.loop-delta.self c.args.deltas.now (returns-clause-counters c)
