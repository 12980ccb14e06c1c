-- With room a place is put.
use Rattle.std.proofs.Common.{arith}
use Rattle.store_content.proofs.IndexLemmas.{at_ok}
use Rattle.store_content.proofs.index.Index.put_session.Goals as goal

pub returns-clause-places : goal.returns-clause-places
returns-clause-places c = λ r h. (at_ok c.insert.result _ (c.insert.ensures.succeeds (omega arith)) c.insert.ensures.updates).0 (r, h)
