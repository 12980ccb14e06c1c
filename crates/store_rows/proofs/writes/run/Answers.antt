use Rattle.sqlite.specs.Held.{state}
use Rattle.sqlite.specs.Values.{bound}
use Rattle.store_rows.proofs.RunLemmas.{text_failed}
use Rattle.store_rows.proofs.writes.run.Goals as goal

pub returns : goal.returns
returns g c = record {
  same_reference = c.execute.ensures.same_reference;
  runs = λ clean inside. (c.in_ok-execute.field-0, c.in_ok-execute.ensures.runs clean inside);
  survives = c.execute.ensures.survives;
}

pub returns-in_err-execute : goal.returns-in_err-execute
returns-in_err-execute g c = record {
  same_reference = c.execute.ensures.same_reference;
  runs = λ clean inside. text_failed c.args.sql.now (bound c.args.params.now) (state g.S.Store c.args.tx.now.conn.now) (state g.S.Store c.execute.new.self.conn.now) c.in_err-execute.field-0.0 c.from_residual.result c.from_residual.ensures.1 (c.in_err-execute.ensures.runs clean inside);
  survives = c.execute.ensures.survives;
}
