use Rattle.std.proofs.Common.{rules}
use Rattle.own_schema.proofs.tables.is_cells.Goals as goal

pub returns-else-is_one_plain : goal.returns-else-is_one_plain
returns-else-is_one_plain c = search rules
