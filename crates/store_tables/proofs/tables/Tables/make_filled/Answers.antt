use Rattle.store_rows.specs.Holding.{Holds, HoldsNothing}
use Rattle.store_tables.specs.Transacts.{filled}
use Rattle.store_tables.proofs.KeepLemmas.{leaves_first}
use Rattle.store_tables.proofs.tables.Tables.make_filled.Goals as goal

pub returns-then-self-clause-either : goal.returns-then-self-clause-either
returns-then-self-clause-either g c keeps fault = leaves_first g.S.Store c.args.self.now.conn HoldsNothing (Holds (filled c.args.site.now c.args.layout.now c.args.cells.now c.args.notices.now)) keeps
