use Rattle.std.proofs.Common.{rules}
use Rattle.durable_keeper.proofs.cells.is_same_place.Goals as goal

pub returns-then-c-d : goal.returns-then-c-d
returns-then-c-d c = search rules
