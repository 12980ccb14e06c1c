use Rattle.std.proofs.Common.{◌<◌, ap, ◌∙◌, arith, length}
use Rattle.sqlite_value.specs.Order.{Row, column}
use Rattle.sqlite_rules.proofs.ListLemmas.{has_at}
use Rattle.store_tables.proofs.LookLemmas.{place_of}
use Rattle.store_tables.proofs.marking.has_name.Goals as goal

pub returns-then-is_named-clause-found : goal.returns-then-is_named-clause-found
returns-then-is_named-clause-found c is = (c.row-item.result, has_at c.args.rows.now c.rows.row-index c.row-item.result (omega arith) c.row-item.is, c.is_named.ensures.sound c.if-is_named.true)

pub returns-clause-none : goal.returns-clause-none
returns-clause-none c is r h named =
    let k = place_of c.args.rows.now r h in
    let within : k.0 < length c.args.rows.now = k.1 in
    absurd (c.rows.invariant.1 k.0 (omega (arith, within)) (ap (λ (x : Row). column x 0) k.2 ∙ named))
