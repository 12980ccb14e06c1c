use Rattle.std.proofs.Common.{take}
use Rattle.merge_core.specs.Book.{IsBook}
use Rattle.merge_core.specs.Changes.{JoinsAll}
use Rattle.merge_core.proofs.book.Book.join_all.Given as goal

abbrev pub invariant-loop-delta : goal.invariant-loop-delta
invariant-loop-delta l = record {
  joined : JoinsAll l.initial.self l.self (take l.delta-index l.deltas);
  book : IsBook l.self;
}
