use Rattle.std.proofs.Common.{◌≤◌, arith}
use Rattle.std.proofs.lemmas.Int.{ints}
use Rattle.std.proofs.lemmas.Grind.{common_steps}
use Rattle.seat_rows.proofs.BalanceLemmas.{site_there, number_small, tells_raised}
use Rattle.seat_rows.proofs.seats.SeatRow.raise_taken.Goals as goal

pub lose-requires-clause-room : goal.lose-requires-clause-room
lose-requires-clause-room c =
    let small = number_small _ _ _ _ c.self.view_is c.self.invariant.0 c.self.invariant.1 c.requires.site in
    omega (arith, ints)

pub invariant_of-self : goal.invariant_of-self
invariant_of-self c =
    (grind (arith, common_steps), tells_raised _ _ _ _ _ _ _ _ _ _ _ c.self.view_is c.self.invariant.1 (site_there _ _ _ _ c.self.view_is c.requires.site) c.self.invariant.0.size c.from.ensures c.taken.ensures c.saturating_sub-by.ensures c.raise_to-rose.ensures.counters c.lose.ensures)
