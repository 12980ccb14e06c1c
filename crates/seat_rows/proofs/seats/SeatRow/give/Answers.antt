use Rattle.std.proofs.Common.{◌≤◌, arith}
use Rattle.std.proofs.lemmas.Int.{ints}
use Rattle.std.proofs.lemmas.Grind.{common_steps}
use Rattle.seat_rows.proofs.BalanceLemmas.{site_there, number_small, taken_small, tells_made}
use Rattle.seat_rows.proofs.seats.SeatRow.give.Goals as goal

pub gain-requires-clause-room : goal.gain-requires-clause-room
gain-requires-clause-room c =
    let small = number_small _ _ _ _ c.self.view_is c.self.invariant.0 c.self.invariant.1 c.requires.site in
    let few = taken_small _ _ _ c.self.view_is c.self.invariant.0 c.requires.site in
    omega (arith, ints)

pub invariant_of-self : goal.invariant_of-self
invariant_of-self c =
    (grind (arith, common_steps), tells_made _ _ _ _ _ _ _ c.self.invariant.1 (site_there _ _ _ _ c.self.view_is c.requires.site) c.give_back.ensures.state c.give_back.ensures.rights c.gain.ensures)
