use Rattle.std.proofs.Common.{rules}
use Rattle.own_schema.proofs.columns.is_column.Goals as goal

pub returns-then-is_null : goal.returns-then-is_null
returns-then-is_null c = search rules
