use Rattle.std.proofs.Common.{[]}
use Rattle.sqlite.specs.Held.{state}
use Rattle.store_schema.specs.Tables.{no_schema, schema_1}
use Rattle.store_schema.specs.Texts.{create_meta}
use Rattle.store_rows.specs.Steps.{Makes}
use Rattle.store_rows.proofs.CreateLemmas.{makes_meta}
use Rattle.store_rows.proofs.RunLemmas.{text_runs}
use Rattle.store_rows.proofs.writes.create_meta.Goals as goal

pub returns : goal.returns
returns g c = text_runs c.run.result (Makes no_schema schema_1) create_meta [] c.run.ensures (λ count ran has. makes_meta (state g.S.Store c.args.tx.now.conn.now) (state g.S.Store c.run.new.tx.conn.now) count has ran)
