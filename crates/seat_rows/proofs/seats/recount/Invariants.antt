use Rattle.std.proofs.Common.{◌≡◌, ℕ, ◌<◌, length, slice_index_or, pos}
use Rattle.rights_matrix.specs.Matrix.{site_count}
use Rattle.seat_rows.specs.Seats.{SeatState, signed_rights}
use Rattle.seat_rows.proofs.seats.recount.Given as goal

abbrev pub invariant-loop-i : goal.invariant-loop-i
invariant-loop-i l = record {
  size : length l.cached ≡ site_count l.rights;
  done : (k : ℕ) → k < l.i → slice_index_or l.cached k (pos 0) ≡ signed_rights (record { matrix = l.rights; taken = l.taken }) k;
}
