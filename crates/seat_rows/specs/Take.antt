-- Taking seats, a decrement of the bounded counter: made only where the site has the rights (Balegas et al.,
-- 2015).
use Rattle.std.specs.Prelude.{ℕ, ◌+◌, nat_lt, if◌then◌else◌, Option, Some, None}
use Rattle.grow_counters.specs.Counts.{counter_limit}
use Rattle.seat_rows.specs.declared.faults.SeatError.{SeatError}
use Rattle.seat_rows.specs.declared.faults.SeatError.TheVariants.{CounterFull, NoSeat}
use Rattle.seat_rows.specs.Seats.{SeatState, taken_at, seat_rights}

-- why site i may not take w seats, in the order of the tests
abbrev pub take_fault : SeatState → ℕ → ℕ → Option SeatError
take_fault st i w =
    if nat_lt counter_limit (taken_at st i + w) then Some CounterFull else (
    if nat_lt (seat_rights st i) w then Some (NoSeat (seat_rights st i)) else None)
