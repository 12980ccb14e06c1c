use Rattle.live_databases.proofs.MoveLemmas.{matched}
use Rattle.live_databases.proofs.UntoldLemmas.{untold_move}
use Rattle.shell_tests.proofs.runtime.FakeLiveDatabases.move_store.Goals as goal

pub returns : goal.returns
returns c =
    matched _ _ _ _ c.regroup_over-told.result.0
    (λ text has. record {
      name = has.name;
      is_next = has.is_next;
      first = has.moves.tells.first;
      cells = has.moves.tells.cells;
      sessions = has.moves.tells.sessions;
      is_text = has.moves.tells.is_text;
    })
    (λ ended unmoved. untold_move c.args.layout c.args.site c.requires _ c.args.group.now _ _ ended unmoved) c.regroup_over-told.ensures
