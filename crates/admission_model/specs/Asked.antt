-- The change of the durable part that an operation makes: at most two counters and one session.
use Rattle.std.specs.Prelude.{ℕ, ◌+◌, ◌==◌, List, [], ◌∷◌, ◌++◌, if◌then◌else◌, Option, Some, None}
use Rattle.merge_core.specs.declared.cell.Cell.TheVariants.{Out, Taken, Ann, Fin}
use Rattle.session_list.specs.declared.session.Phase.{Phase}
use Rattle.session_list.specs.declared.session.Phase.TheVariants.{Reader, Waiting, Writer}
use Rattle.session_list.specs.declared.session.Session.{Session}
use Rattle.admission_model.specs.declared.durable.DurableCell.{DurableCell}
use Rattle.admission_model.specs.declared.operation.Operation.{Operation}
use Rattle.admission_model.specs.declared.operation.Operation.TheVariants.{EnteredRead, AnnouncedWriter, EnteredWrite, LeftRecord, GaveSeats}
use Rattle.admission_model.specs.Account.{seats_in, weight, writers, on_phase}
use Rattle.admission_model.specs.View.{View}
use Rattle.admission_model.specs.Durable.{Change}

-- the new value of a counter that rises by so much; by nothing, there is none
abbrev pub raised_cell : ℕ → ℕ → ℕ → ℕ → List DurableCell
raised_cell r slot old by = if by == 0 then [] else (record { r = r; slot = slot; value = old + by } ∷ [])

-- the cells that an operation raises, of the site that shows the view
abbrev pub operation_cells : View → Operation → List DurableCell
operation_cells v (EnteredRead r h) = raised_cell r 200 (v.counter r v.site Taken) 1
operation_cells v (AnnouncedWriter r h) = raised_cell r 201 (v.counter r v.site Ann) 1
operation_cells v (EnteredWrite r h) = raised_cell r 200 (v.counter r v.site Taken) (seats_in v.layout r)
operation_cells v (LeftRecord r h) =
    raised_cell r v.site (v.counter r v.site (Out v.site)) (on_phase (weight (seats_in v.layout r)) (v.phase r h))
    ++ raised_cell r 202 (v.counter r v.site Fin) (on_phase writers (v.phase r h))
operation_cells v (GaveSeats r to seats) = raised_cell r to (v.counter r v.site (Out to)) seats

-- the session that comes or changes its phase
abbrev pub operation_put : Operation → List Session
operation_put (EnteredRead r h) = record { r = r; h = h; phase = Reader } ∷ []
operation_put (AnnouncedWriter r h) = record { r = r; h = h; phase = Waiting } ∷ []
operation_put (EnteredWrite r h) = record { r = r; h = h; phase = Writer } ∷ []
operation_put (LeftRecord r h) = []
operation_put (GaveSeats r to seats) = []

-- the session of a holder at a record, where it has this phase
abbrev pub session_at : ℕ → ℕ → Option Phase → List Session
session_at r h None = []
session_at r h (Some p) = record { r = r; h = h; phase = p } ∷ []

-- the session that goes
abbrev pub operation_removed : View → Operation → List Session
operation_removed v (EnteredRead r h) = []
operation_removed v (AnnouncedWriter r h) = []
operation_removed v (EnteredWrite r h) = []
operation_removed v (LeftRecord r h) = session_at r h (v.phase r h)
operation_removed v (GaveSeats r to seats) = []

-- the change that an operation makes of the durable part
abbrev pub operation_change : View → Operation → Change
operation_change v operation = record {
  cells = operation_cells v operation;
  put = operation_put operation;
  removed = operation_removed v operation;
}
