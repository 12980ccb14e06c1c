use Rattle.store_rows.specs.Holding.{Holds}
use Rattle.store_tables.specs.Rounds.{changed_all}
use Rattle.store_tables.proofs.KeepLemmas.{leaves_first}
use Rattle.store_tables.proofs.tables.Tables.commit_all.Goals as goal

pub returns-then-self-clause-either : goal.returns-then-self-clause-either
returns-then-self-clause-either g c it takes keeps fault =
    leaves_first g.S.Store c.args.self.now.conn (Holds it) (Holds (changed_all c.args.cells.now c.args.notices.now c.args.edits.now it)) keeps
