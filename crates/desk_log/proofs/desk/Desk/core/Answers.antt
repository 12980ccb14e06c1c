use Rattle.std.proofs.Common.{subst}
use Rattle.desk_log.specs.Desk.{IsDesk}
use Rattle.desk_log.proofs.DeskLemmas.{seats_inside}
use Rattle.desk_log.proofs.desk.Desk.core.Goals as goal

pub returns-clause-inside : goal.returns-clause-inside
returns-clause-inside g c = λ r below. seats_inside g.K.Keeper c.args.self.now (subst (IsDesk g.K.Keeper) c.self.view_is c.self.invariant) r below
