use Rattle.std.proofs.Common.{◌≡◌, take}
use Rattle.round_keeper.specs.Rounds.{changed_all}
use Rattle.round_keeper.proofs.memory.commit_each.Given as goal

abbrev pub invariant-loop-change : goal.invariant-loop-change
invariant-loop-change l = record {
  made : l.keeper.part ≡ changed_all (take l.change-index l.changes) l.initial.keeper.part;
  layout : l.keeper.layout ≡ l.initial.keeper.layout;
  site : l.keeper.site ≡ l.initial.keeper.site;
}
