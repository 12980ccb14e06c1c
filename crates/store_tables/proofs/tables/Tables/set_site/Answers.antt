use Rattle.store_rows.specs.Holding.{Holds}
use Rattle.store_tables.specs.Transacts.{with_site}
use Rattle.store_tables.proofs.KeepLemmas.{leaves_first}
use Rattle.store_tables.proofs.tables.Tables.set_site.Goals as goal

pub returns-then-self-clause-either : goal.returns-then-self-clause-either
returns-then-self-clause-either g c it fits keeps fault = leaves_first g.S.Store c.args.self.now.conn (Holds it) (Holds (with_site c.args.site.now it)) keeps
