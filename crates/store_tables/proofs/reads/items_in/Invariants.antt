use Rattle.std.proofs.Common.{◌≡◌, map, take}
use Rattle.store_tables.proofs.reads.items_in.Given as goal

abbrev pub invariant-rows : goal.invariant-rows
invariant-rows g l = map g.T.Item.row_of l.all.items ≡ take l.found-index l.rows
