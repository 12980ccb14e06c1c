use Rattle.std.proofs.Common.{[]}
use Rattle.sqlite.specs.Held.{state}
use Rattle.store_schema.specs.Tables.{schema_2, schema_3}
use Rattle.store_schema.specs.Texts.{create_sessions}
use Rattle.store_rows.specs.Steps.{Makes}
use Rattle.store_rows.proofs.CreateLemmas.{makes_sessions}
use Rattle.store_rows.proofs.RunLemmas.{text_runs}
use Rattle.store_rows.proofs.writes.create_sessions.Goals as goal

pub returns : goal.returns
returns g c = text_runs c.run.result (Makes schema_2 schema_3) create_sessions [] c.run.ensures (λ count ran has. makes_sessions (state g.S.Store c.args.tx.now.conn.now) (state g.S.Store c.run.new.tx.conn.now) count has ran)
