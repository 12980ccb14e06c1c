-- A record before any operation.
use Rattle.std.specs.Prelude.{ℕ, replicate}
use Rattle.seat_rows.specs.Seats.{start_seats}
use Rattle.merge_core.specs.declared.layout.RecordSpec.{RecordSpec}
use Rattle.merge_core.specs.declared.record.RecordState.{RecordState}

-- all seats at home, none taken, and no writer announced
abbrev pub start_record : ℕ → RecordSpec → RecordState
start_record sites spec = record {
  seats = start_seats sites spec.home spec.seats;
  notices = record { announced = replicate {A = ℕ} sites 0; finished = replicate {A = ℕ} sites 0 };
}
