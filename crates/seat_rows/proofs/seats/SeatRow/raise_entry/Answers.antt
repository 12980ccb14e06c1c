use Rattle.std.proofs.Common.{◌≤◌, sym, arith}
use Rattle.std.proofs.lemmas.Int.{ints}
use Rattle.std.proofs.lemmas.Grind.{common_steps}
use Rattle.seat_rows.proofs.BalanceLemmas.{site_there, number_small, start_small, lost_small, tells_made, tells_moved, IsSeatState-raised}
use Rattle.seat_rows.proofs.seats.SeatRow.raise_entry.Goals as goal

pub gain-requires-clause-room : goal.gain-requires-clause-room
gain-requires-clause-room c =
    let small = number_small _ _ _ _ c.self.view_is c.self.invariant.0 c.self.invariant.1 c.requires.site in
    let few = start_small _ _ c.args.s c.args.j c.self.view_is c.self.invariant.0 in
    omega (arith, ints)

pub invariant_of-self : goal.invariant_of-self
invariant_of-self c =
    (grind (arith, common_steps), tells_made _ _ _ _ _ _ _ c.self.invariant.1 (site_there _ _ _ _ c.self.view_is c.requires.site) (rw (← c.if-s-j.true) at c.raise_to-by.ensures.state) (c.raise_to-by.ensures.makes c.if-s-j.true) c.gain.ensures)

pub lose-requires-clause-room : goal.lose-requires-clause-room
lose-requires-clause-room c =
    let small = number_small _ _ _ _ c.self.view_is c.self.invariant.0 c.self.invariant.1 c.requires.site in
    let few = start_small _ _ c.args.s c.args.j c.self.view_is c.self.invariant.0 in
    omega (arith, ints)

pub gain-requires-2-clause-room : goal.gain-requires-2-clause-room
gain-requires-2-clause-room c =
    let at_s = number_small _ _ _ _ c.self.view_is c.self.invariant.0 c.self.invariant.1 c.requires.site in
    let at_j = number_small _ _ _ _ c.self.view_is c.self.invariant.0 c.self.invariant.1 c.requires.to in
    let inside = (site_there _ _ _ _ c.self.view_is c.requires.site) in
    let low = lost_small _ _ _ c.args.j _ (omega (arith, inside, c.self.invariant.1.size)) c.lose.ensures at_s.1 at_j.1 in
    let few = start_small _ _ c.args.s c.args.j c.self.view_is c.self.invariant.0 in
    omega (arith, ints)

pub invariant_of-self-2 : goal.invariant_of-self-2
invariant_of-self-2 c =
    let inside = (site_there _ _ _ _ c.self.view_is c.requires.site) in (
      IsSeatState-raised _ _ _ _ _ _ c.self.invariant.0 c.raise_to-by.ensures.matrix inside (λ e. c.if-s-j.false (sym e)) c.raise_to-by.ensures.state,
      tells_moved _ _ _ _ _ _ _ _ _ c.self.invariant.1 inside (site_there _ _ _ _ c.self.view_is c.requires.to) (λ e. c.if-s-j.false (sym e)) c.raise_to-by.ensures.state (c.raise_to-by.ensures.moves c.if-s-j.false) c.lose.ensures c.gain-2.ensures,
    )
