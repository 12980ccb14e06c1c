use Rattle.std.proofs.Common.{arith}
use Rattle.std.proofs.lemmas.Grind.{common_steps}
use Rattle.rights_matrix.proofs.rights.keep_row.Goals as goal

pub add-requires-clause-room : goal.add-requires-clause-room
add-requires-clause-room c = grind (arith, common_steps)

pub returns-clause-counters : goal.returns-clause-counters
returns-clause-counters c = grind (arith, common_steps)
