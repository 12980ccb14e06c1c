use Rattle.std.proofs.Common.{arith}
use Rattle.std.proofs.lemmas.Grind.{common_steps}
use Rattle.seat_rows.proofs.BalanceLemmas.{site_there, tells_taken}
use Rattle.seat_rows.proofs.seats.SeatRow.take.Goals as goal

pub invariant_of-self : goal.invariant_of-self
invariant_of-self c =
    (grind (arith, common_steps), tells_taken _ _ _ _ _ _ _ _ c.self.invariant.1 (site_there _ _ _ _ c.self.view_is c.requires.site) c.self.invariant.0.size c.from.ensures c.add.ensures c.lose.ensures)
