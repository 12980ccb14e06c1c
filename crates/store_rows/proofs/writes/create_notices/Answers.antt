use Rattle.std.proofs.Common.{[]}
use Rattle.sqlite.specs.Held.{state}
use Rattle.store_schema.specs.Tables.{schema_3, schema_4}
use Rattle.store_schema.specs.Texts.{create_notices}
use Rattle.store_rows.specs.Steps.{Makes}
use Rattle.store_rows.proofs.CreateLemmas.{makes_notices}
use Rattle.store_rows.proofs.RunLemmas.{text_runs}
use Rattle.store_rows.proofs.writes.create_notices.Goals as goal

pub returns : goal.returns
returns g c = text_runs c.run.result (Makes schema_3 schema_4) create_notices [] c.run.ensures (λ count ran has. makes_notices (state g.S.Store c.args.tx.now.conn.now) (state g.S.Store c.run.new.tx.conn.now) count has ran)
