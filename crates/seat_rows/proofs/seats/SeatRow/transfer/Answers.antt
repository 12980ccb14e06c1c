use Rattle.std.proofs.Common.{◌≤◌, arith}
use Rattle.std.proofs.lemmas.Int.{ints}
use Rattle.std.proofs.lemmas.Grind.{common_steps}
use Rattle.rights_matrix.proofs.RightsLemmas.{transfer_allowed}
use Rattle.seat_rows.proofs.BalanceLemmas.{site_there, number_small, lost_small, tells_moved, IsSeatState-raised}
use Rattle.seat_rows.proofs.seats.SeatRow.transfer.Goals as goal

pub gain-requires-clause-room : goal.gain-requires-clause-room
gain-requires-clause-room c =
    let at_i = number_small _ _ _ _ c.self.view_is c.self.invariant.0 c.self.invariant.1 c.requires.from in
    let at_j = number_small _ _ _ _ c.self.view_is c.self.invariant.0 c.self.invariant.1 c.requires.to in
    let inside = (site_there _ _ _ _ c.self.view_is c.requires.from) in
    let low = lost_small _ _ _ c.args.j _ (omega (arith, inside, c.self.invariant.1.size)) c.lose.ensures at_i.1 at_j.1 in
    let allowed = transfer_allowed c.self.inside.rights c.args.i c.args.j c.args.n c.rights-rights.result c.in_ok-transfer_from.ensures.answer in
    let few : c.args.n ≤ 1000000000000 = omega (arith, allowed.1) in
    omega (arith, ints)

pub invariant_of-self-2 : goal.invariant_of-self-2
invariant_of-self-2 c =
    let allowed = transfer_allowed c.self.inside.rights c.args.i c.args.j c.args.n c.rights-rights.result c.in_ok-transfer_from.ensures.answer in
    let inside = (site_there _ _ _ _ c.self.view_is c.requires.from) in (
      IsSeatState-raised _ _ _ _ _ _ c.self.invariant.0 c.transfer_from.ensures.matrix inside allowed.0 c.in_ok-transfer_from.ensures.state,
      tells_moved _ _ _ _ _ _ _ _ _ c.self.invariant.1 inside (site_there _ _ _ _ c.self.view_is c.requires.to) allowed.0 c.in_ok-transfer_from.ensures.state c.in_ok-transfer_from.ensures.rights c.lose.ensures c.gain.ensures,
    )
