use Rattle.std.proofs.Common.{◌≡◌, ◌+◌, All, length}
use Rattle.session_book.specs.Sites.{new_passes}
use Rattle.run_engine.specs.Tasks.{IsReady}
use Rattle.run_engine.proofs.sites.tasks_of.Given as goal

abbrev pub invariant-ends : goal.invariant-ends
invariant-ends g l = record {
  left : l.passes.items ≡ new_passes (length l.ends.items + 1);
  ready : All IsReady l.tasks.items;
}

abbrev pub decreases-ends : goal.decreases-ends
decreases-ends g l = length l.ends.items
