use Rattle.std.proofs.Common.{◌∙◌}
use Rattle.round_keeper.proofs.StagedLemmas.{nothing_changed}
use Rattle.round_keeper.proofs.memory.MemoryKeeperRoundKeeper.commit_all.Goals as goal

pub returns-then-are_empty-clause-ok : goal.returns-then-are_empty-clause-ok
returns-then-are_empty-clause-ok c = λ d is. nothing_changed c.args.changes.now d (c.are_empty.ensures.empty c.if-are_empty.true) ∙ is
