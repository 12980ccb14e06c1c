use Rattle.std.proofs.Common.{arith}
use Rattle.sqlite_rules.proofs.ListLemmas.{has_at}
use Rattle.store_tables.proofs.reads.items_in.Goals as goal

pub returns-in_default-clause-found : goal.returns-in_default-clause-found
returns-in_default-clause-found g c each =
    let x = each c.found-item.result (has_at c.args.rows.now c.rows.found-index c.found-item.result (omega arith) c.found-item.is) in
    c.in_default.ensures.found x.0 x.1 x.2
