use Rattle.std.proofs.Common.{◌<◌, ap, arith, length}
use Rattle.sqlite_value.specs.Order.{Row, column}
use Rattle.store_rows.specs.Rows.{mark_row}
use Rattle.store_tables.proofs.LookLemmas.{if_ok_map, if_some_map, value_told, row_told, place_of}
use Rattle.store_tables.proofs.reads.mark_in.Goals as goal

pub returns-then-is_named-clause-sound : goal.returns-then-is_named-clause-sound
returns-then-is_named-clause-sound c value tells =
    if_ok_map c.text_at.result
    (λ found told. if_some_map found (λ text shown. value_told c.args.rows.now c.args.name.now value c.row-item.result c.rows.row-index tells (omega arith) c.row-item.is (c.is_named.ensures.sound c.if-is_named.true) text.items shown) told)
    c.text_at.ensures.sound

pub returns-then-is_named-clause-found : goal.returns-then-is_named-clause-found
returns-then-is_named-clause-found c value tells =
    c.text_at.ensures.found value (row_told c.args.rows.now c.args.name.now value c.row-item.result c.rows.row-index tells (omega arith) c.row-item.is (c.is_named.ensures.sound c.if-is_named.true))

pub returns-clause-found : goal.returns-clause-found
returns-clause-found c value tells =
    let k = place_of c.args.rows.now (mark_row c.args.name.now value) tells.there in
    let within : k.0 < length c.args.rows.now = k.1 in
    absurd (c.rows.invariant.1 k.0 (omega (arith, within)) (ap (λ (r : Row). column r 0) k.2))
