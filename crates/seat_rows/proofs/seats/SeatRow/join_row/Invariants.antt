use Rattle.std.proofs.Common.{◌≡◌, ◌+◌, ◌≤◌, take}
use Rattle.seat_rows.specs.Seats.{IsSeatState, joined_seats_at, seat_rises}
use Rattle.seat_rows.proofs.seats.SeatRow.join_row.Given as goal

abbrev pub invariant-loop-j : goal.invariant-loop-j
invariant-loop-j l = record {
  state : l.self ≡ joined_seats_at l.fn.self l.s (take l.j l.given) l.taken;
  counted : l.risen ≡ seat_rises l.fn.self l.self;
  few : l.risen ≤ l.j + 1;
  seats : IsSeatState l.self;
}
