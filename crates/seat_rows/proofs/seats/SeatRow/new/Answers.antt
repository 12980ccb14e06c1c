use Rattle.std.proofs.Common.{refl}
use Rattle.seat_rows.proofs.BalanceLemmas.{IsSeatState-start}
use Rattle.seat_rows.proofs.seats.SeatRow.new.Goals as goal

pub invariant_of-result : goal.invariant_of-result
invariant_of-result c =
    (IsSeatState-start _ _ _ _ _ c.in_ok-rights.ensures.matrix c.in_ok-rights.ensures.start (rw c.from.ensures at c.in_ok-taken.ensures.zeros) c.requires.home, c.recount.ensures)

pub returns-clause-state : goal.returns-clause-state
returns-clause-state c =
    IsSeatState-start _ _ _ _ _ c.in_ok-rights.ensures.matrix c.in_ok-rights.ensures.start (rw c.from.ensures at c.in_ok-taken.ensures.zeros) c.requires.home
