-- What the tables hold is read, and its index made.
use Rattle.std.proofs.Common.{IfOk, subst}
use Rattle.store_rows.specs.Rows.{Stored}
use Rattle.store_content.specs.declared.index.Index.{Index}
use Rattle.store_content.specs.Known.{Knows}
use Rattle.site_store.proofs.rounds.find_index.Goals as goal

pub returns-in-Ok-clause-known : goal.returns-in-Ok-clause-known
returns-in-Ok-clause-known g c it keeps clean =
    subst (λ (x : Stored). IfOk c.index_of.result (λ (index : Index). Knows index x)) (c.in-Ok.ensures.read it keeps clean) c.index_of.ensures
